-- `exponential::whole_entry` meets its contract, by one computed test over the entries of each of its two tables.
use Rattle.std.proofs.Common.{ℕ, ◌+◌, ◌-◌, T, List, [], ◌∷◌, ap, ◌∙◌, sub-add_cancel, arith, lt-ltb}
use Rattle.exponential.specs.Exponential.{whole}
use Rattle.exponential.proofs.Table.{holds, entry, looked_up}
use Rattle.exponential.proofs.whole_entry.Goals as goal

pub returns-then-k-lt6 : goal.returns-then-k-lt6
unfolding whole
returns-then-k-lt6 c = rw (looked_up whole, lt-ltb _ _ c.if-k-lt6.true)

-- FAR_WHOLES[k - 6]
far : List ℕ
far =
    0x0028_9ca3_e227_a9ac ∷ 0x000e_f0b5_ce12_54c7 ∷ 0x0005_7f08_4104_09eb ∷ 0x0002_059e_44a4_ca8b ∷ 0x0000_be6b_cdab_23e5 ∷ 0x0000_460d_508e_3d9e ∷
    0x0000_19c5_4c3b_43bd ∷ 0x0000_097b_029d_cc0f ∷ 0x0000_037c_d8df_b603 ∷ 0x0000_0148_75ca_227f ∷ 0x0000_0078_d56e_ebba ∷ 0x0000_002c_73c6_2eb5 ∷
    0x0000_0010_5a62_8c6a ∷ 0x0000_0006_0415_bfcb ∷ 0x0000_0002_3690_cabe ∷ 0x0000_0000_d06d_8687 ∷ 0x0000_0000_4cad_22fc ∷ 0x0000_0000_1c35_27e4 ∷
    0x0000_0000_0a60_83c8 ∷ 0x0000_0000_03d1_46f5 ∷ 0x0000_0000_0167_852a ∷ 0x0000_0000_0084_4295 ∷ 0x0000_0000_0030_a7e0 ∷ 0x0000_0000_0011_e643 ∷
    0x0000_0000_0006_95b8 ∷ 0x0000_0000_0002_6c24 ∷ 0x0000_0000_0000_e423 ∷ 0x0000_0000_0000_53ed ∷ 0x0000_0000_0000_1ee0 ∷ []

far-holds : T (holds (λ j. whole (j + 6)) far)
unfolding far whole
far-holds = tt

pub returns : goal.returns
unfolding far
returns c =
    let k = c.args.k in
    entry (λ j. whole (j + 6)) far far-holds (k - 6) (omega arith) ∙ ap whole (sub-add_cancel c.if-k-lt6.false)
