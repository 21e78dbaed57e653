-- What is printed for a survey file: paper 01, "Program `wellmap` reads one from standard input".
use Rattle.std.specs.Prelude.{ℕ, zero, suc, ◌≤◌, ◌<◌, ◌≡◌, ◌≢◌, ◌⊎◌, ◌↔◌, cond, List, take}
use Rattle.error.specs.Rules.{NoneApplies}
use Rattle.survey.specs.Limits.{library, program}
use Rattle.survey.specs.Survey.{Survey, wells, node_count, columns}
use Rattle.survey.specs.Rules.{list_rules}
use Rattle.kriging_theory.specs.Areas.{Areas}
use Rattle.kriging_theory.specs.Fit.{fitted}
use Rattle.survey_file_theory.specs.File.{newest_version}
use Rattle.survey_file_theory.specs.Refusals.{malformed}
use Rattle.survey_file_theory.specs.Reader.{survey_in, reader}
use Rattle.report.specs.Listing.{listing, refused_text}
use Rattle.survey_map.specs.Areas.{own_lists, own_areas}

-- of a fit that ended with this number: "node count; node number from 1, figure bits, variance bits, verdict; one coef line a column" and "`trend` lines
-- after the coef lines", or "A refusal prints only `refused N`"
abbrev pub fit_text : ℕ → Survey → Areas → List ℕ
fit_text zero s a =
    listing (take (node_count s) a.predicted) (take (node_count s) a.variance) (take (node_count s) a.verdicts) (take (columns s) a.multipliers)
    (take (columns s) a.trend)
fit_text (suc k) s a = refused_text (suc k)

-- of a survey, by the limits of the program: "`wellmap` gives 9 above 48"
unfoldable pub survey_text : Survey → List ℕ
unfolding own_areas fitted
survey_text s = let o = fitted program s own_areas in fit_text o.number s o.areas

-- of a file: "16 comes before the fit's"
unfoldable pub file_text : List ℕ → List ℕ
unfolding survey_text
file_text bytes = cond (malformed newest_version bytes) (refused_text 16) (survey_text (survey_in bytes))

-- ---- what holds of it
-- one byte more than a file may have
abbrev pub bytes_read : ℕ
bytes_read = 65537

-- so many are enough: "over 65,536 bytes" is 16, however many there are
abbrev pub FirstBytes : List ℕ → Type 0
FirstBytes bytes = file_text (take bytes_read bytes) ≡ file_text bytes

-- whatever the survey, the fit's own areas are long enough: 17 and 18 never show
pub record AmpleForFit (s : Survey) : Type 0 where
  pub work : (fitted program s own_areas).number ≢ 17
  pub answer : (fitted program s own_areas).number ≢ 18
  pub never_17 : survey_text s ≢ refused_text 17
  pub never_18 : survey_text s ≢ refused_text 18

-- "`wellmap` gives 9 above 48", in 9's own place: exactly where none of 1 to 8 applies and "n > 48, p > 12 or m > 100"
abbrev pub NineAbove48 : Survey → Type 0
NineAbove48 s =
    (survey_text s ≡ refused_text 9)
    ↔ (NoneApplies (list_rules s (node_count s) s.node_external) × ((48 < wells s) ⊎ (12 < columns s) ⊎ (100 < node_count s)))

-- up to 48 wells the text is that of the library's fit, refused or not
abbrev pub LibraryUpTo48 : Survey → Type 0
LibraryUpTo48 s = wells s ≤ 48 → survey_text s ≡ (let o = fitted library s own_areas in fit_text o.number s o.areas)

-- "Survey files don't carry it and take 2^-52": whatever the bytes, 22 never shows
abbrev pub NeverSpot : List ℕ → Type 0
NeverSpot bytes = file_text bytes ≢ refused_text 22

-- whatever the bytes, the areas for their lists are too: the reader's only refusal is 16, and what is printed is never 17 or 18
pub record AmpleForFile (bytes : List ℕ) : Type 0 where
  pub lists : (reader newest_version bytes own_lists).number ≢ 18
  pub never_17 : file_text bytes ≢ refused_text 17
  pub never_18 : file_text bytes ≢ refused_text 18
