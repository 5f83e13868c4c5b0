-- A float that is not finite, told by two comparisons with zero. Assumes nothing.
use mathlib.Core.Path.{◌≡◌, refl}
use mathlib.Core.Bool.{true, false, true≢false, false≢true}
use lib.IntN.{pos}
use lib.Ieee.{Float, nan, inf, fin, lt}
use lib.Ieee.Scale.{finite}

pub above_inf : (v : Float) → finite v ≡ false → lt (fin false 0 (pos 0)) v ≡ true → v ≡ inf false
unfolding lt
above_inf nan n h = absurd (false≢true h)
above_inf (inf true) n h = absurd (false≢true h)
above_inf (inf false) n h = refl
above_inf (fin s m e) n h = absurd (true≢false n)

pub below_inf : (v : Float) → finite v ≡ false → lt v (fin false 0 (pos 0)) ≡ true → v ≡ inf true
unfolding lt
below_inf nan n h = absurd (false≢true h)
below_inf (inf true) n h = refl
below_inf (inf false) n h = absurd (false≢true h)
below_inf (fin s m e) n h = absurd (true≢false n)

pub neither_nan : (v : Float) → finite v ≡ false → lt (fin false 0 (pos 0)) v ≡ false → lt v (fin false 0 (pos 0)) ≡ false → v ≡ nan
unfolding lt
neither_nan nan n g h = refl
neither_nan (inf true) n g h = absurd (true≢false h)
neither_nan (inf false) n g h = absurd (true≢false g)
neither_nan (fin s m e) n g h = absurd (true≢false n)
