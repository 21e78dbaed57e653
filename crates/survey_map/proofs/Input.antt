-- What is printed of a file's first 65,537 bytes is what is printed of all of it.
use Prim.Native.Nat.{ℕ, ◌<◌}
use native.Mathlib.Decide.{dec_lt}
use native.Mathlib.Omega.{arith}
use mathlib.Core.Path.{◌≡◌, ap, sym, ◌∙◌}
use mathlib.Core.Logic.{inl, inr}
use mathlib.Core.List.{List}
use lib.ListN.{length, take}
use lib.Seq.{length-take-le, take_all}
use Rattle.survey_file_theory.specs.File.{longest_file}
use Rattle.report.specs.Listing.{refused_text}
use Rattle.survey_map.specs.Text.{file_text, bytes_read, FirstBytes}
use Rattle.survey_map.proofs.Texts.{malformed_text}

-- a file that is over
over : (bytes : List ℕ) → longest_file < length bytes → refused_text 16 ≡ file_text bytes
over bytes l = malformed_text bytes (inr (inl l))

pub first_bytes : (bytes : List ℕ) → FirstBytes bytes
first_bytes bytes =
    elim (dec_lt longest_file (length bytes)) [
      | yes l ↦ let e = length-take-le bytes_read bytes (omega arith) in sym (over (take bytes_read bytes) (omega arith)) ∙ over bytes l
      | no h ↦ ap file_text (take_all bytes_read bytes (omega arith))
    ]
