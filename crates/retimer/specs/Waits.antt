-- The waits at which a transition is enabled, as the code computes them, and the configurations along a diagonal.
use Rattle.std.specs.Prelude.{ℕ, suc, ◌-◌, min, max}
use Rattle.enforcement.specs.Automaton.{Transition}
use Rattle.enforcement.specs.TimedWord.{Configuration}
use Rattle.enforcement.specs.Model.{top, advance}

-- The wait from which on both readings are saturated.
abbrev pub saturation : ℕ → ℕ → ℕ
saturation x y = top - min x y

-- The first wait at which no reading is below its low.
unfoldable pub first_wait : Transition → ℕ → ℕ → ℕ
first_wait t x y = max (t.low1 - x) (t.low2 - y)

-- One more than the last wait, at most cap, at which a reading x is not above high; 0 where it is above at once.
unfoldable pub end_of : ℕ → ℕ → ℕ → ℕ
end_of high x cap = min (suc high - x) (suc cap)

-- One more than the last wait, up to saturation, at which no reading is above its high.
unfoldable pub end_wait : Transition → ℕ → ℕ → ℕ
end_wait t x y = min (end_of t.high1 x (saturation x y)) (end_of t.high2 y (saturation x y))

-- The configuration with location l at a position of the diagonal of x and y: u ticks after those readings.
abbrev pub along : ℕ → ℕ → ℕ → ℕ → Configuration
along x y l u = advance u (record { location = l; x = x; y = y })
