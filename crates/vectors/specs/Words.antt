-- Words that come in, and what is made of them. Which words they are no contract can say: each says of a result that some such word gives it.
use Rattle.std.specs.Prelude.{◌≡◌, ℕ, ◌+◌, ◌%◌, ◌^◌, cond, List, length, ◌==◌, nat_lt, Option, None, Some, unwrap_or, option_map, from_bits, Float}
use Rattle.std.specs.Float.{binary64}
use Rattle.variogram.specs.declared.VariogramModel.{VariogramModel}
use Rattle.variogram.specs.declared.VariogramModel.TheVariants.{Spherical, Exponential, Gaussian, Linear}
use Rattle.variogram.specs.declared.Variogram.{Variogram}
use Rattle.variogram.specs.Model.{variogram, with_same_spot}
use Rattle.patterns.specs.Words.{word_at}

-- so many bytes as they come in: some number of them did, and where that is less there are none
abbrev pub BytesIn : ℕ → Option (List ℕ) → Type 0
BytesIn n r = (got : ℕ) × (bytes : List ℕ) × (length bytes ≡ n) × (r ≡ cond (nat_lt got n) None (Some bytes))

-- a word as it comes in, of 8 bytes
abbrev pub CameIn : Option ℕ → Type 0
CameIn w = (r : Option (List ℕ)) × BytesIn 8 r × (w ≡ option_map (λ bytes. word_at bytes 0) r)

-- what a word gives that comes in: past the input's end it is 0
abbrev pub In : {A : Type 0} → (ℕ → A) → A → Type 0
In of_word x = (w : Option ℕ) × CameIn w × (x ≡ of_word (unwrap_or w 0))

-- a count
abbrev pub SizeIn : ℕ → Type 0
SizeIn = In (λ word. word)

-- the f64 whose pattern a word is
abbrev pub FloatIn : Float → Type 0
FloatIn = In (from_bits binary64)

-- where a list ends that begins at a place, and whose length comes in, as a word counts
abbrev pub EndIn : ℕ → ℕ → Type 0
EndIn start end = (n : ℕ) × SizeIn n × (end ≡ (start + n) % 2 ^ 64)

-- "model 1 to 4 in the enum's order"; no record has another number
abbrev pub model_in : ℕ → VariogramModel
model_in number = cond (number == 1) Spherical (cond (number == 2) Exponential (cond (number == 3) Gaussian Linear))

-- a model's number, and then nugget, sill, range and same-spot distance
pub record VariogramIn (v : Variogram) : Type 0 where
  pub model : ℕ
  pub nugget : Float
  pub sill : Float
  pub range : Float
  pub same_spot : Float
  pub model_came : SizeIn model
  pub nugget_came : FloatIn nugget
  pub sill_came : FloatIn sill
  pub range_came : FloatIn range
  pub same_spot_came : FloatIn same_spot
  pub is : v ≡ with_same_spot (variogram (model_in model) nugget sill range) same_spot
