-- Cases of what is printed, each by its text.
use Rattle.std.specs.Prelude.{ℕ, Ok, Err, ◌≡◌, List, [], ◌∷◌, ◌++◌, length, replicate, Float}
use Rattle.std.specs.Float.{nan, binary64}
use Rattle.std.specs.Float.Ieee.{of_bits}
use Rattle.error.specs.Numbers.{number_of}
use Rattle.error.specs.declared.Refusal.TheVariants.{SurveyFile, TooMany}
use Rattle.report.specs.Numerals.{ascii, bits_text}
use Rattle.report.specs.Listing.{listing, refused_text, longest}
use Rattle.report.specs.Printed.{outcome_of, printed, listed}
use Rattle.report.specs.declared.Unprinted.TheVariants.{TooShort, Uneven}

-- a float by its pattern, and so many alike
abbrev pub f : ℕ → Float
f = of_bits binary64

abbrev pub zeros : ℕ → List Float
zeros k = replicate k (f 0)

-- "Case B prints exactly", and "B's listing gains `trend 4010000000000000`"
abbrev pub case_b : List ℕ
case_b = ascii "nodes 1\n1 4010000000000000 3ff8000000000000 0\ncoef 3fe0000000000000\ntrend 4010000000000000\n"

-- what it is printed of, "4, 1.5, coefficient 0.5, 0", where the coefficient is the multiplier, and the trend's 4
abbrev pub of_b : {A : Type 0} → (List Float → List Float → List ℕ → List Float → List Float → A) → A
of_b g =
    g (f 0x4010_0000_0000_0000 ∷ []) (f 0x3ff8_0000_0000_0000 ∷ []) (0 ∷ []) (f 0x3fe0_0000_0000_0000 ∷ []) (f 0x4010_0000_0000_0000 ∷ [])

pub record Cases : Type 0 where
  -- the codes of the characters are the bytes
  pub bytes : ascii "nodes 1\n" ≡ 110 ∷ 111 ∷ 100 ∷ 101 ∷ 115 ∷ 32 ∷ 49 ∷ 10 ∷ []
  pub case_b_lem : of_b listing ≡ case_b
  -- into an area of just its length, into one with a byte more, and into one with a byte less
  pub just_room : of_b listed (replicate 91 7) ≡ outcome_of (Ok 91) case_b
  pub more_room : of_b listed (replicate 92 7) ≡ outcome_of (Ok 91) (case_b ++ (7 ∷ []))
  pub less_room : of_b listed (replicate 90 7) ≡ outcome_of (Err TooShort) (replicate 90 7)
  -- two figures, or two variances, for one node
  pub two_figures : listed (zeros 2) (zeros 1) (0 ∷ []) (zeros 1) (zeros 1) (replicate 99 7) ≡ outcome_of (Err Uneven) (replicate 99 7)
  pub two_variances : listed (zeros 1) (zeros 2) (0 ∷ []) (zeros 1) (zeros 1) (replicate 99 7) ≡ outcome_of (Err Uneven) (replicate 99 7)
  -- two numbers of the trend for one multiplier, or none
  pub two_trends : listed (zeros 1) (zeros 1) (0 ∷ []) (zeros 1) (zeros 2) (replicate 120 7) ≡ outcome_of (Err Uneven) (replicate 120 7)
  pub no_trend_lem : listed (zeros 1) (zeros 1) (0 ∷ []) (zeros 1) [] (replicate 99 7) ≡ outcome_of (Err Uneven) (replicate 99 7)
  -- case C: "figure NaN, variance +0, verdict 255"; its well is A's, and the trend's estimate "doesn't depend on the nodes": 5
  pub case_c : listing (nan ∷ []) (zeros 1) (255 ∷ []) (nan ∷ []) (f 0x4014_0000_0000_0000 ∷ [])
      ≡ ascii "nodes 1\n1 7ff8000000000000 0000000000000000 255\ncoef 7ff8000000000000\ntrend 4014000000000000\n"
  -- a trend may be a NaN too
  pub trend_nan : listing [] [] [] (zeros 1) (nan ∷ []) ≡ ascii "nodes 0\ncoef 0000000000000000\ntrend 7ff8000000000000\n"
  -- "any NaN": of either sign and with any payload
  pub any_nan : bits_text (f 0xfff0_0000_0000_0001) ≡ ascii "7ff8000000000000"
  -- every digit, "in small letters"; -0 has its sign
  pub every_digit : bits_text (f 0x0123_4567_89ab_cdef) ≡ ascii "0123456789abcdef"
  pub minus_zero : bits_text (f 0x8000_0000_0000_0000) ≡ ascii "8000000000000000"
  -- A with no node: "zeros if m = 0" are the multipliers, and "m = 0 fills it too", the trend: "In sounding A it is 5"
  pub no_node_lem : listing [] [] [] (zeros 1) (f 0x4014_0000_0000_0000 ∷ []) ≡ ascii "nodes 0\ncoef 0000000000000000\ntrend 4014000000000000\n"
  -- two columns: all "`trend` lines after the coef lines"
  pub two_columns_lem : listing [] [] [] (f 1 ∷ f 2 ∷ []) (f 3 ∷ f 4 ∷ [])
      ≡ ascii "nodes 0\ncoef 0000000000000001\ncoef 0000000000000002\ntrend 0000000000000003\ntrend 0000000000000004\n"
  -- ten nodes: "node number from 1"
  pub ten_nodes : listing (zeros 10) (zeros 10) (0 ∷ 1 ∷ 2 ∷ 3 ∷ 4 ∷ 5 ∷ 6 ∷ 7 ∷ 10 ∷ 13 ∷ []) [] []
      ≡ ascii "nodes 10\n1 0000000000000000 0000000000000000 0\n2 0000000000000000 0000000000000000 1\n"
      ++ ascii "3 0000000000000000 0000000000000000 2\n4 0000000000000000 0000000000000000 3\n"
      ++ ascii "5 0000000000000000 0000000000000000 4\n6 0000000000000000 0000000000000000 5\n"
      ++ ascii "7 0000000000000000 0000000000000000 6\n8 0000000000000000 0000000000000000 7\n"
      ++ ascii "9 0000000000000000 0000000000000000 10\n10 0000000000000000 0000000000000000 13\n"
  -- "A refusal prints only `refused N`"
  pub refused_9 : refused_text (number_of TooMany) ≡ ascii "refused 9\n"
  pub refused_16 : refused_text (number_of SurveyFile) ≡ ascii "refused 16\n"
  pub refusal_with_room : printed (refused_text 16) (replicate 12 7) ≡ outcome_of (Ok 11) (ascii "refused 16\n" ++ (7 ∷ []))
  pub refusal_without : printed (refused_text 16) (replicate 10 7) ≡ outcome_of (Err TooShort) (replicate 10 7)
  -- the longest listing has so many bytes
  pub reached : length (listing (zeros 100) (zeros 100) (replicate 100 255) (zeros 12) (zeros 12)) ≡ longest
