-- Even cover for a frame, rules T2 to T6: which of its keypoints are kept. Definitions only.
use Rattle.std.specs.Prelude.{ℕ, zero, suc, ◌+◌, ◌-◌, ◌*◌, ◌/◌, ◌%◌, Bool, cond, not, ◌&&◌, ◌||◌, List, leb, ltb, eqb, length, get_or, Float}
use Rattle.ieee.specs.F32.{f32, float, ◌<ᶠ◌, ◌≤ᶠ◌}
use Rattle.params.specs.Limits.{keypoint_words}
use Rattle.counts.specs.Counts.{counted, passed, some}
use Rattle.thin_rule.specs.declared.Region.{Region}

-- ---- a list of keypoints, and the one at position i: of its words, number 0 is x, 1 is y and 3 is the response

abbrev pub points_in : List ℕ → ℕ
points_in ws = length ws / keypoint_words

abbrev pub word_at : List ℕ → ℕ → ℕ → ℕ
word_at ws i k = get_or ws (keypoint_words * i + k) 0

abbrev pub x_of : List ℕ → ℕ → Float
x_of ws i = f32 (word_at ws i 0)

abbrev pub y_of : List ℕ → ℕ → Float
y_of ws i = f32 (word_at ws i 1)

abbrev pub response_of : List ℕ → ℕ → Float
response_of ws i = f32 (word_at ws i 3)

-- ---- a region: the columns from left to below right, the rows from top to below bottom

-- x lies from a to below b, as a number
abbrev pub between : ℕ → ℕ → Float → Bool
between a b x = (float a ≤ᶠ x) && (x <ᶠ float b)

unfoldable pub inside : List ℕ → Region → ℕ → Bool
inside ws r i = between r.left r.right (x_of ws i) && between r.top r.bottom (y_of ws i)

-- how many of the keypoints lie in it
abbrev pub many : List ℕ → Region → ℕ
many ws r = counted 0 (points_in ws) (inside ws r)

-- ---- its quarters: cut at half the width and half the height, rounded down, in row order 0, 1, 2 and 3

abbrev pub middle : ℕ → ℕ → ℕ
middle a b = a + (b - a) / 2

-- quarters 0 and 2 lie left of the cut, 0 and 1 above it
abbrev pub is_left : ℕ → Bool
is_left k = eqb (k % 2) 0

abbrev pub is_upper : ℕ → Bool
is_upper k = ltb k 2

unfoldable pub quarter : Region → ℕ → Region
quarter r k =
    record {
      left = cond (is_left k) r.left (middle r.left r.right);
      right = cond (is_left k) (middle r.left r.right) r.right;
      top = cond (is_upper k) r.top (middle r.top r.bottom);
      bottom = cond (is_upper k) (middle r.top r.bottom) r.bottom;
    }

-- the quota by four, the remainder going one each to the first quarters
unfoldable pub share : ℕ → ℕ → ℕ
share q k = q / 4 + cond (ltb k (q % 4)) 1 0

-- ---- the best: the largest responses, the earlier position winning a tie

-- j goes before i: its response is the larger, or i's is not and j stands earlier
unfoldable pub before : List ℕ → ℕ → ℕ → Bool
before ws j i = (response_of ws i <ᶠ response_of ws j) || (not (response_of ws j <ᶠ response_of ws i) && ltb j i)

-- fewer than q of the region's keypoints go before i
unfoldable pub best : List ℕ → Region → ℕ → ℕ → Bool
best ws r q i = ltb (counted 0 (points_in ws) (λ j. inside ws r j && before ws j i)) q

-- ---- what a region keeps, at a depth and a quota

unfoldable pub keeps : List ℕ → ℕ → Region → ℕ → ℕ → Bool
keeps ws zero r q i = inside ws r i && (leb (many ws r) q || best ws r q i)
keeps ws (suc d) r q i =
    inside ws r i && (leb (many ws r) q || cond (ltb q 4) (best ws r q i) (some 4 (λ k. keeps ws d (quarter r k) (share q k) i)))

-- the kept positions, ascending
unfoldable pub kept : List ℕ → ℕ → Region → ℕ → List ℕ
kept ws d r q = passed 0 (points_in ws) (keeps ws d r q)
