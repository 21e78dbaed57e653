-- What `wellmap` prints: "node count; node number from 1, figure bits, variance bits, verdict; one coef line a column", then "`trend` lines after the
-- coef lines", or "only `refused N`". Each line ends in a line feed.
use Rattle.std.specs.Prelude.{ℕ, zero, suc, ◌+◌, ◌*◌, List, [], ◌++◌, length, get_or, Float}
use Rattle.std.specs.Float.{nan}
use Rattle.report.specs.Numerals.{ascii, decimal_text, bits_text}

-- what stands between two fields of a line
abbrev pub spaced : List ℕ → List ℕ
spaced field = ascii " " ++ field

-- a line of one word and one number
abbrev pub word_line : List ℕ → ℕ → List ℕ
word_line word n = word ++ spaced (decimal_text n) ++ ascii "\n"

-- "node count"
abbrev pub count_line : ℕ → List ℕ
count_line m = word_line (ascii "nodes") m

-- "node number from 1, figure bits, variance bits, verdict"
abbrev pub node_line : ℕ → Float → Float → ℕ → List ℕ
node_line number figure variance verdict =
    decimal_text number ++ spaced (bits_text figure) ++ spaced (bits_text variance) ++ spaced (decimal_text verdict) ++ ascii "\n"

-- a line of one word and one float's bits
abbrev pub bits_line : List ℕ → Float → List ℕ
bits_line word x = word ++ spaced (bits_text x) ++ ascii "\n"

-- the lines 0 to k - 1, one after another
abbrev pub lines : ℕ → (ℕ → List ℕ) → List ℕ
lines zero line = []
lines (suc k) line = lines k line ++ line k

-- the line of the node at place i, whose number is i + 1
abbrev pub node_at : List Float → List Float → List ℕ → ℕ → List ℕ
node_at figures variances verdicts i = node_line (i + 1) (get_or figures i nan) (get_or variances i nan) (get_or verdicts i 0)

-- the line of the number at place j of a list, after its word
abbrev pub bits_at : List ℕ → List Float → ℕ → List ℕ
bits_at word numbers j = bits_line word (get_or numbers j nan)

-- the multipliers': "one coef line a column"
abbrev pub coef_at : List Float → ℕ → List ℕ
coef_at = bits_at (ascii "coef")

-- the trend's: "`wellmap` prints it as `trend` lines"
abbrev pub trend_at : List Float → ℕ → List ℕ
trend_at = bits_at (ascii "trend")

-- all of an accepted fit's; there are as many nodes as verdicts, and as many columns as multipliers and as numbers of the trend
unfoldable pub listing : List Float → List Float → List ℕ → List Float → List Float → List ℕ
listing figures variances verdicts multipliers trend =
    count_line (length verdicts) ++ lines (length verdicts) (node_at figures variances verdicts) ++ lines (length multipliers) (coef_at multipliers)
    ++ lines (length trend) (trend_at trend)

-- "A refusal prints only `refused N`"
unfoldable pub refused_text : ℕ → List ℕ
refused_text number = word_line (ascii "refused") number

-- The bytes of the longest listing of an accepted fit, 100 nodes and 12 columns: 10 for the count's line; 192 for the numbers 1 to 100, and with a
-- verdict of three digits 39 more for each node; 22 for each column's coef line and 23 for its trend line.
abbrev pub longest : ℕ
longest = 10 + (192 + 100 * 39) + 12 * (22 + 23)
