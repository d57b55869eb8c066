-- The check of a sheet and its loading date (document 01, and requests F-5 and F-7 of document 02): the condition of each refusal, what the check answers, and what an accepted sheet gives.
use Rattle.std.specs.Prelude.{◌≡◌, Bool, true, false, ◌&&◌, ◌||◌, not, List, [], ◌∷◌, ◌⊎◌, ◌↔◌, ℕ, zero, suc, ◌+◌, ◌*◌, ◌%◌, ◌^◌, ◌≤◌, ◌<◌, T, leb, ltb, eqb, length}
use Rattle.std.specs.Int.Count.{ones}
use Rattle.enforcement.specs.Limits.{max_count, max_bound, max_transitions, max_date, max_size}
use Rattle.enforcement.specs.Automaton.{Bytes, word, locations, clocks, actions, initial, accepting, bit, offset, size, Transition, transitions, all_transitions, enabled}
use Rattle.enforcement.specs.Reason.{Reason, i_1, i_2, i_3, i_4, i_5, i_6, i_7, i_8, s_1, s_2, s_3, s_4, s_5, number}

-- ---- What a sheet must be

-- Bytes 0 to 2 are in range.
pub record HeaderFits (s : Bytes) : Type 0 where
  pub a_location : 1 ≤ locations s
  pub locations_fit : locations s ≤ max_count
  pub a_clock : 1 ≤ clocks s
  pub clocks_fit : clocks s ≤ 2
  pub an_action : 1 ≤ actions s
  pub actions_fit : actions s ≤ max_count

-- An accepting bit from L on.
abbrev pub BitBeyond : Bytes → Type 0
BitBeyond s = (i : ℕ) × (locations s ≤ i) × T (accepting s i)

-- The end of the transitions of the locations before l: the end of the pairs if l is the first.
abbrev pub end_before : Bytes → ℕ → ℕ
end_before s zero = 6 + 4 * locations s
end_before s (suc l) = offset s l + size s l

-- The pairs: each offset is where the transitions before it end, lengths are multiples of 7, and the last transitions end at the sheet's end.
pub record Layout (s : Bytes) : Type 0 where
  pub adjacent : (l : ℕ) → l < locations s → offset s l ≡ end_before s l
  pub whole : (l : ℕ) → l < locations s → size s l % 7 ≡ 0
  pub to_the_end : end_before s (locations s) ≡ length s

-- A low up to b, a high up to b or 255 for no upper bound, and the low is not above the high. Here and below b is the largest bound.
pub record BoundsUpTo (b low high : ℕ) : Type 0 where
  pub low_fits : low ≤ b
  pub high_fits : (high ≤ b) ⊎ (high ≡ 255)
  pub ordered : low ≤ high

-- With one clock the bounds of clock 2 are 0 and 255, and it is not in the reset set.
pub record OneClock (t : Transition) : Type 0 where
  pub low_zero : t.low2 ≡ 0
  pub high_none : t.high2 ≡ 255
  pub kept : bit t.resets 1 ≡ false

-- A transition whose fields are in range.
pub record FitsUpTo (b : ℕ) (s : Bytes) (t : Transition) : Type 0 where
  pub action_fits : t.action < actions s
  pub target_fits : t.target < locations s
  pub resets_fit : t.resets ≤ 3
  pub first : BoundsUpTo b t.low1 t.high1
  pub second : BoundsUpTo b t.low2 t.high2
  pub one_clock : clocks s ≡ 1 → OneClock t

abbrev pub AllFitUpTo : ℕ → Bytes → List Transition → Type 0
AllFitUpTo b s [] = Unit {0}
AllFitUpTo b s (t ∷ ts) = FitsUpTo b s t × AllFitUpTo b s ts

-- The same with the box's own largest bound.
abbrev pub Bounds : ℕ → ℕ → Type 0
Bounds low high = BoundsUpTo max_bound low high

abbrev pub Fits : Bytes → Transition → Type 0
Fits s t = FitsUpTo max_bound s t

abbrev pub AllFit : Bytes → List Transition → Type 0
AllFit s ts = AllFitUpTo max_bound s ts

-- Two transitions for one action that some readings, reached by a run or not, both enable.
pub record Overlap (t u : Transition) : Type 0 where
  pub same_action : t.action ≡ u.action
  pub x : ℕ
  pub y : ℕ
  pub enables_one : T (enabled t x y)
  pub enables_other : T (enabled u x y)

-- A transition overlaps one of a list; two transitions of a list, at different places, overlap.
abbrev pub OverlapsOne : Transition → List Transition → Type 0
OverlapsOne t [] = ⊥
OverlapsOne t (u ∷ us) = Overlap t u ⊎ OverlapsOne t us

abbrev pub OverlapIn : List Transition → Type 0
OverlapIn [] = ⊥
OverlapIn (t ∷ ts) = OverlapsOne t ts ⊎ OverlapIn ts

-- ---- When the load refuses

-- The condition of each reason, of a sheet and the date at which it is loaded. The load has the first six, and I-8. Only that of I-5 reads the largest bound.
unfoldable pub HoldsUpTo : ℕ → Reason → Bytes → ℕ → Type 0
HoldsUpTo b i_1 s d = (length s < 6) ⊎ (max_size < length s)
HoldsUpTo b i_2 s d = HeaderFits s → ⊥
HoldsUpTo b i_3 s d = (locations s ≤ initial s) ⊎ BitBeyond s
HoldsUpTo b i_4 s d = (length s < 6 + 4 * locations s) ⊎ ((Layout s → ⊥) ⊎ (max_transitions < length (all_transitions s)))
HoldsUpTo b i_5 s d = AllFitUpTo b s (all_transitions s) → ⊥
HoldsUpTo b i_6 s d = (l : ℕ) × OverlapIn (transitions s l)
HoldsUpTo b i_7 s d = ⊥
HoldsUpTo b i_8 s d = max_date < d
HoldsUpTo b s_1 s d = ⊥
HoldsUpTo b s_2 s d = ⊥
HoldsUpTo b s_3 s d = ⊥
HoldsUpTo b s_4 s d = ⊥
HoldsUpTo b s_5 s d = ⊥

-- The reason's condition holds, and no earlier one does.
pub record GivenUpTo (b : ℕ) (r : Reason) (s : Bytes) (d : ℕ) : Type 0 where
  pub holds : HoldsUpTo b r s d
  pub none_earlier : (q : Reason) → number q < number r → HoldsUpTo b q s d → ⊥

-- No condition holds: the sheet is accepted at that date.
abbrev pub LoadsUpTo : ℕ → Bytes → ℕ → Type 0
LoadsUpTo b s d = (r : Reason) → HoldsUpTo b r s d → ⊥

-- The same with the box's own largest bound.
abbrev pub Holds : Reason → Bytes → ℕ → Type 0
Holds r s d = HoldsUpTo max_bound r s d

abbrev pub Given : Reason → Bytes → ℕ → Type 0
Given r s d = GivenUpTo max_bound r s d

abbrev pub Loads : Bytes → ℕ → Type 0
Loads s d = LoadsUpTo max_bound s d

-- A sheet without a refusal of its own: it loads at date 0, and so at every date up to the last one (`loads_is`).
abbrev pub WellFormed : Bytes → Type 0
WellFormed s = Loads s 0

-- ---- What the check answers

-- The figures of the first line that the desk program prints.
pub record Counts : Type 0 where
  pub locations : ℕ
  pub clocks : ℕ
  pub actions : ℕ
  pub transitions : ℕ
  pub accepting : ℕ

abbrev pub counts_of : Bytes → Counts
counts_of s = record { locations = locations s; clocks = clocks s; actions = actions s; transitions = length (all_transitions s); accepting = ones (word s 4) }

pub data Checked : Type 0 where
  accepted : Counts → Checked
  refused : Reason → Checked

-- The tests, one for each reason: true where the sheet passes.
unfoldable pub size_passes : Bytes → Bool
size_passes s = leb 6 (length s) && leb (length s) max_size

unfoldable pub header_passes : Bytes → Bool
header_passes s = (leb 1 (locations s) && leb (locations s) max_count) && ((leb 1 (clocks s) && leb (clocks s) 2) && (leb 1 (actions s) && leb (actions s) max_count))

unfoldable pub initial_passes : Bytes → Bool
initial_passes s = ltb (initial s) (locations s) && ltb (word s 4) (2 ^ locations s)

-- n pairs from l on are in place, where the transitions before them end at e.
unfoldable pub pairs_pass : Bytes → ℕ → ℕ → ℕ → Bool
pairs_pass s zero l e = eqb e (length s)
pairs_pass s (suc n) l e = eqb (offset s l) e && (eqb (size s l % 7) 0 && pairs_pass s n (suc l) (e + size s l))

unfoldable pub layout_passes : Bytes → Bool
layout_passes s = leb (6 + 4 * locations s) (length s) && (pairs_pass s (locations s) 0 (6 + 4 * locations s) && leb (length (all_transitions s)) max_transitions)

abbrev pub bounds_pass_up_to : ℕ → ℕ → ℕ → Bool
bounds_pass_up_to b low high = leb low b && ((leb high b || eqb high 255) && leb low high)

abbrev pub one_clock_passes : Transition → Bool
one_clock_passes t = eqb t.low2 0 && (eqb t.high2 255 && not (bit t.resets 1))

unfoldable pub fits_up_to : ℕ → Bytes → Transition → Bool
fits_up_to b s t = (ltb t.action (actions s) && (ltb t.target (locations s) && leb t.resets 3)) && ((bounds_pass_up_to b t.low1 t.high1 && bounds_pass_up_to b t.low2 t.high2) && (not (eqb (clocks s) 1) || one_clock_passes t))

unfoldable pub all_fit_up_to : ℕ → Bytes → List Transition → Bool
all_fit_up_to b s [] = true
all_fit_up_to b s (t ∷ ts) = fits_up_to b s t && all_fit_up_to b s ts

-- The intervals of both clocks meet, and the action is the same. A high of 255 is above every low.
unfoldable pub overlap : Transition → Transition → Bool
overlap t u = eqb t.action u.action && ((leb t.low1 u.high1 && leb u.low1 t.high1) && (leb t.low2 u.high2 && leb u.low2 t.high2))

unfoldable pub overlaps_none : Transition → List Transition → Bool
overlaps_none t [] = true
overlaps_none t (u ∷ us) = not (overlap t u) && overlaps_none t us

unfoldable pub disjoint : List Transition → Bool
disjoint [] = true
disjoint (t ∷ ts) = overlaps_none t ts && disjoint ts

-- The transitions of each of n locations from l on are disjoint.
unfoldable pub disjoint_over : Bytes → ℕ → ℕ → Bool
disjoint_over s zero l = true
disjoint_over s (suc n) l = disjoint (transitions s l) && disjoint_over s n (suc l)

abbrev pub unless : Bool → Reason → Checked → Checked
unless true r k = k
unless false r k = refused r

-- The reasons are tested in order, each over the whole sheet, and then the date.
unfoldable pub check_up_to : ℕ → Bytes → ℕ → Checked
check_up_to b s d =
    unless (size_passes s) i_1
    (unless (header_passes s) i_2
    (unless (initial_passes s) i_3
    (unless (layout_passes s) i_4
    (unless (all_fit_up_to b s (all_transitions s)) i_5
    (unless (disjoint_over s (locations s) 0) i_6
    (unless (leb d max_date) i_8
    (accepted (counts_of s))))))))

-- The same with the box's own largest bound.
abbrev pub bounds_pass : ℕ → ℕ → Bool
bounds_pass low high = bounds_pass_up_to max_bound low high

abbrev pub fits : Bytes → Transition → Bool
fits s t = fits_up_to max_bound s t

abbrev pub all_fit : Bytes → List Transition → Bool
all_fit s ts = all_fit_up_to max_bound s ts

abbrev pub check : Bytes → ℕ → Checked
check s d = check_up_to max_bound s d

-- ---- What is promised of the check, and of a sheet that it accepts

-- A reason is answered exactly when its condition holds and no earlier one does; the counts exactly when none holds.
pub record CheckRightUpTo (b : ℕ) (s : Bytes) (d : ℕ) : Type 0 where
  pub refuses : (r : Reason) → (check_up_to b s d ≡ refused r) ↔ GivenUpTo b r s d
  pub accepts : (check_up_to b s d ≡ accepted (counts_of s)) ↔ LoadsUpTo b s d
  pub one_of : (check_up_to b s d ≡ accepted (counts_of s)) ⊎ ((r : Reason) × (check_up_to b s d ≡ refused r))

abbrev pub CheckRight : Bytes → ℕ → Type 0
CheckRight s d = CheckRightUpTo max_bound s d

-- What runs need of an automaton: the bounds of every transition, and that it stays among the locations.
unfoldable pub Bounded : Bytes → Type 0
Bounded s = (l : ℕ) → AllFit s (transitions s l)

-- Of two transitions at different places of one location, no readings enable both for one action.
unfoldable pub Deterministic : Bytes → Type 0
Deterministic s = (l : ℕ) → OverlapIn (transitions s l) → ⊥
