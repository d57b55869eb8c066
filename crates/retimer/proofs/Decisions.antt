-- What an offer that passed the first checks works out, and that the model decides by the same.
-- Assumes nothing.
use mathlib.Core.Path.{◌≡◌, ap, ap₂, sym, ◌∙◌}
use mathlib.Core.Bool.{Bool, true, false}
use mathlib.Core.List.{List, [], ◌∷◌, ◌++◌}
use Prim.Native.Nat.{ℕ, suc, ◌+◌, ◌*◌, ◌-◌, ◌≤◌, ◌<◌, max}
use native.Mathlib.Omega.{arith}
use lib.Dec.{leb, ltb}
use lib.ListN.{length, take, get_or, length-append}
use lib.Seq.{length-take-le, get_or-take, get_or_at, take-append_seam}
use borrow.Author.Tests.{le-ltb, lt-ltb}
use Rattle.enforcement.specs.Limits.{max_count, max_scheduled, max_date, max_numbered}
use Rattle.enforcement.specs.Automaton.{Bytes}
use Rattle.enforcement.specs.TimedWord.{Configuration}
use Rattle.enforcement.specs.Reason.{s_3}
use Rattle.enforcement.specs.History.{actions_of, dropped}
use Rattle.enforcement.specs.Model.{Prospect, ticks, extensible, dead, top, Compiled, prospect, dates, advance, compile}
use Rattle.enforcement.specs.Monitor.{same, dated, joins, earliest, standing, walk, placed, kept, decided, checked, is_dead, is_lit}
use Rattle.enforcement.specs.Monitor as model
use Rattle.retimer.specs.declared.limits.State.{State}
use Rattle.retimer.specs.declared.optimum.Planned.{Planned}
use Rattle.retimer.specs.Readings.{waited, located}
use Rattle.retimer.specs.Optimum.{Asked, PlanRight, LampAsked}
use Rattle.retimer.specs.View.{pending_of, view, StateSound}
use Rattle.retimer.specs.Calls.{lamp_with, lamp_at, last_action, new_dates, decided_of, CorrectAsked, PlaceAsked, placed_of}
use Rattle.retimer.proofs.Valuations.{located_waited, standing_waited}
use Rattle.retimer.specs.Outlook.{front_of}
use Rattle.retimer.proofs.Prospects.{ticks_most}
use Rattle.retimer.proofs.Views.{joins_actions, pending_actions, schedule_length, joins_length, answering}
use Rattle.retimer.proofs.Stuck.{lit_some}

-- The model decides by the prospect.
decided_is : (m : Compiled) (v : model.Monitor) (c t : ℕ) (x : Prospect) → prospect m (actions_of (joins v c t)) (standing v t) ≡ x → decided m v c t (dates m (actions_of (joins v c t))) x ≡ checked m v c t true false false false
unfolding checked
decided_is m v c t x e = ap (decided m v c t (dates m (actions_of (joins v c t)))) (sym e)

front_of_lem : (cs : List ℕ) (c : ℕ) → front_of (cs ++ (c ∷ [])) ≡ cs
front_of_lem cs c = let z : length (cs ++ (c ∷ [])) - 1 ≡ length cs = omega (arith, length-append cs (c ∷ [])) in ap (λ (n : ℕ). take n (cs ++ (c ∷ []))) z ∙ take-append_seam cs (c ∷ [])

-- ---- The first date at which an action can be played, and the configuration there

pub standing_is : (q : State) (t start : ℕ) (here : List ℕ) → start ≡ max t q.last → here ≡ waited (start - q.last) q.readings → located q.location here ≡ standing (view q) t
unfolding view
standing_is q t start here e f =
    ap (located q.location) f ∙ located_waited q.location (start - q.last) q.readings ∙ ap (λ (n : ℕ). advance (n - q.last) (located q.location q.readings)) e

earliest_is : (q : State) (t start : ℕ) → start ≡ max t q.last → start ≡ earliest (view q) t
unfolding view
earliest_is q t start e = e

-- ---- What is asked of the search and of the lamp

pub plan_asked : {s : Bytes} {live : List ℕ} {q : State} {t start : ℕ} {here cs ds : List ℕ} → CorrectAsked s live q t cs start here → length cs ≡ max_count + 1 → length ds ≡ max_count + 1 → Asked s (take (q.held + 1) cs) q.location here start ds
plan_asked {s} {live} {q} {t} {start} {here} {cs} a n d =
    let f = a.sound in
    let k : length (take (q.held + 1) cs) ≡ q.held + 1 = length-take-le (q.held + 1) cs (omega (arith, f.held_fits)) in
    record {
      loads = f.loads;
      few = omega (arith, f.held_fits);
      standing = rw a.here_is (standing_waited s q.location (start - q.last) q.readings f.standing);
      correctable = a.correctable;
      early = omega (arith, f.last_fits, a.start_is, a.early);
      room = omega (arith, f.held_fits);
    }

pub lamp_asked : {s : Bytes} {live : List ℕ} (q : State) (n : ℕ) (here : List ℕ) → StateSound s live q → here ≡ waited n q.readings → LampAsked s live q.location here
lamp_asked {s} q n here f e = record { loads = f.loads; table = f.table; standing = rw e (standing_waited s q.location n q.readings f.standing) }

pub lamp_as : (s : Bytes) (q : State) (t start : ℕ) (here : List ℕ) (x : Bool) → start ≡ max t q.last → here ≡ waited (start - q.last) q.readings
    → x ≡ is_lit (compile s) (located q.location here) (actions_of (pending_of q)) → x ≡ lamp_at s q t
unfolding view
lamp_as s q t start here x e f g = g ∙ ap (λ (p : Configuration). is_lit (compile s) p (actions_of (pending_of q))) (standing_is q t start here e f)

-- ---- What an offer has worked out before it decides

pub record Worked (s : Bytes) (live : List ℕ) (q : State) (c t start : ℕ) (here cs : List ℕ) : Type 0 where
  pub sound : StateSound s live q
  pub early : t ≤ max_date
  pub countable : q.numbered < max_numbered
  pub start_is : start ≡ max t q.last
  pub here_is : here ≡ waited (start - q.last) q.readings
  pub sized : length cs ≡ max_count + 1
  pub joined : take (q.held + 1) cs ≡ actions_of (pending_of q) ++ (c ∷ [])

module _ {s : Bytes} {live : List ℕ} {q : State} {c t start : ℕ} {here cs : List ℕ} (w : Worked s live q c t start here cs) where
  -- The prospect that decides.
  abbrev pub found : Prospect
  found = prospect (compile s) (take (q.held + 1) cs) (located q.location here)

  few : length (take (q.held + 1) cs) ≡ q.held + 1
  few = length-take-le (q.held + 1) cs (omega (arith, w.sized, w.sound.held_fits))

  actions_are : take (q.held + 1) cs ≡ actions_of (joins (view q) c t)
  actions_are = w.joined ∙ sym (joins_actions q c t)

  here_stands : located q.location here ≡ standing (view q) t
  here_stands = standing_is q t start here w.start_is w.here_is

  pub last_is : last_action q cs ≡ c
  last_is =
      sym (get_or-take (q.held + 1) cs q.held 0 (omega arith)) ∙ ap (λ (l : List ℕ). get_or l q.held 0) w.joined
      ∙ get_or_at (actions_of (pending_of q)) c [] 0 q.held (pending_actions q w.sound)

  prospect_is : found ≡ prospect (compile s) (actions_of (joins (view q) c t)) (standing (view q) t)
  prospect_is = ap₂ (prospect (compile s)) actions_are here_stands

  decides : (x : Prospect) → found ≡ x → decided (compile s) (view q) c t (dates (compile s) (actions_of (joins (view q) c t))) x ≡ decided_of s q c t
  decides x e = decided_is (compile s) (view q) c t x (sym prospect_is ∙ e)

  -- Case 1: what it is given.
  pub correct_asked : (n : ℕ) → found ≡ ticks n → CorrectAsked s live q t cs start here
  correct_asked n e = record { sound = w.sound; early = w.early; countable = w.countable; start_is = w.start_is; here_is = w.here_is; joined = rw last_is w.joined; correctable = (n, e) }

  -- Case 2.
  pub hold_is : found ≡ extensible → kept (compile s) (view q) c t (leb max_count (length (view q).pending)) ≡ decided_of s q c t
  unfolding decided
  hold_is e = decides extensible e

  -- What is held is not dead, so the lamp is dark.
  pub hold_dark : found ≡ extensible → lamp_with s q t (actions_of (joins (view q) c t)) ≡ false
  hold_dark e = sym (lit_some (compile s) (standing (view q) t) (actions_of (joins (view q) c t)) false (λ z. omega (arith, few, ap length actions_are, z)) (ap is_dead (sym e ∙ prospect_is)))

  -- Case 3.
  pub drop_is : found ≡ dead → answering dropped (dated (compile s) (view q) t (suc (view q).numbered)) ≡ decided_of s q c t
  unfolding decided
  drop_is e = decides dead e

  -- The lamp is that of the actions without the last.
  pub drop_lamp : (x : Bool) → x ≡ is_lit (compile s) (located q.location here) (front_of (take (q.held + 1) cs)) → x ≡ lamp_at s q t
  drop_lamp x e = lamp_as s q t start here x w.start_is w.here_is (e ∙ ap (is_lit (compile s) (located q.location here)) (ap front_of w.joined ∙ front_of_lem (actions_of (pending_of q)) c))

  -- Case 1, with a correction of n ticks.
  module _ {n : ℕ} (e : found ≡ ticks n) where
    ends_by : n ≤ top * (q.held + 1)
    ends_by = rw few at (ticks_most (compile s) (take (q.held + 1) cs) (located q.location here) n e)

    placing : ℕ → List ℕ → ℕ → model.Answered
    placing x l last = placed (compile s) (view q) x t l last (ltb max_date last) (ltb (max_scheduled - length (view q).schedule) (length (joins (view q) x t)))

    -- Where there is no room, and the last date can't be passed.
    pub crowded_is : start + (max_count + 1) * top ≤ max_date → max_scheduled - q.planned < q.held + 1 → same (view q) s_3 ≡ decided_of s q c t
    unfolding decided placed
    crowded_is h k =
        let late : earliest (view q) t + n ≤ max_date = omega (arith, earliest_is q t start w.start_is, ends_by, w.sound.held_fits) in
        rw (le-ltb max_date (earliest (view q) t + n) late, schedule_length q w.sound, joins_length q c t w.sound, lt-ltb (max_scheduled - q.planned) (q.held + 1) k) at (decides (ticks n) e)

    module _ {before ds : List ℕ} {p : Planned} (planned : PlanRight s (take (q.held + 1) cs) q.location here start before ds p) where
      value_is : p.value ≡ n
      value_is = let f = planned.value_is in (let z : p.value ≡ n = cc in z)

      dates_as_planned : new_dates q ds ≡ dates (compile s) (take (q.held + 1) cs) (located q.location here) start
      dates_as_planned = rw few at planned.dates_are

      dates_are : new_dates q ds ≡ dates (compile s) (actions_of (joins (view q) c t)) (standing (view q) t) (earliest (view q) t)
      dates_are =
          dates_as_planned ∙ ap (λ (l : List ℕ). dates (compile s) l (located q.location here) start) actions_are
          ∙ ap₂ (dates (compile s) (actions_of (joins (view q) c t))) here_stands (earliest_is q t start w.start_is)

      reached_as_planned : located p.location p.readings ≡ walk (compile s).step (actions_of (joins (view q) (last_action q cs) t)) (new_dates q ds) (earliest (view q) t) (standing (view q) t)
      reached_as_planned =
          planned.reached
          ∙ ap₂ (λ (l d : List ℕ). walk (compile s).step l d start (located q.location here)) (actions_are ∙ ap (λ (x : ℕ). actions_of (joins (view q) x t)) (sym last_is)) (sym dates_as_planned)
          ∙ ap₂ (walk (compile s).step (actions_of (joins (view q) (last_action q cs) t)) (new_dates q ds)) (earliest_is q t start w.start_is) here_stands

      pub place_asked : PlaceAsked s live q t cs ds (start + p.value) p.location p.readings
      place_asked = record { sound = w.sound; early = w.early; countable = w.countable; ordered = omega (arith, w.start_is); joined = rw last_is w.joined; stands = planned.standing; reached = reached_as_planned }

      pub place_is : placed_of s q t cs ds (start + p.value) ≡ decided_of s q c t
      unfolding decided placing
      place_is =
          ap (λ (x : ℕ). placing x (new_dates q ds) (start + p.value)) last_is
          ∙ ap₂ (λ (l : List ℕ) (n : ℕ). placing c l n) dates_are (ap₂ (λ (x y : ℕ). x + y) (earliest_is q t start w.start_is) value_is)
          ∙ decides (ticks n) e

-- What case 1 is given is what an offer has worked out.
pub worked : {s : Bytes} {live : List ℕ} {q : State} {t start : ℕ} {cs here : List ℕ} → CorrectAsked s live q t cs start here → length cs ≡ max_count + 1 → Worked s live q (last_action q cs) t start here cs
worked a n = record { sound = a.sound; early = a.early; countable = a.countable; start_is = a.start_is; here_is = a.here_is; sized = n; joined = a.joined }
