-- The model of the box: its calls as functions.
use Rattle.std.specs.Prelude.{Bool, true, false, cond, ◌&&◌, List, [], ◌∷◌, ◌++◌, ℕ, zero, suc, ◌+◌, ◌-◌, max, leb, ltb, length}
use Rattle.std.proofs.Math.Option.{Option, none, some}
use Rattle.enforcement.specs.Limits.{max_count, max_scheduled, max_date, max_numbered}
use Rattle.enforcement.specs.Automaton.{Automaton}
use Rattle.enforcement.specs.TimedWord.{Configuration, origin}
use Rattle.enforcement.specs.Reason.{Reason, i_7, i_8, s_1, s_2, s_3, s_4, s_5}
use Rattle.enforcement.specs.History.{Request, Slot, actions_of, place, Call, offer, collect, lamp, Outcome, scheduled, held, dropped, played, nothing, lit, dark, refused}
use Rattle.enforcement.specs.Model.{Prospect, ticks, extensible, dead, Plan, plan, prospect, Compiled, compile, advance, saturated, has_one_clock}

-- An enforcement monitor (the box) without its automaton: its date, the pending actions (the held list), the schedule, the configuration and date reached by the last event ever scheduled, how many offers
-- it has numbered, and whether its lamp is lit.
pub record Monitor : Type 0 where
  pub date : ℕ
  pub pending : List Request
  pub schedule : List Slot
  pub configuration : Configuration
  pub last : ℕ
  pub numbered : ℕ
  pub lit : Bool

pub record Answered : Type 0 where
  pub outcome : Outcome
  pub monitor : Monitor

-- The configuration after actions at dates.
abbrev pub walk_on : Option Configuration → (Configuration → Configuration) → Configuration → Configuration
walk_on none f p = p
walk_on (some q) f p = f q

unfoldable pub walk : (ℕ → Configuration → Option Configuration) → List ℕ → List ℕ → ℕ → Configuration → Configuration
walk st [] ds d p = p
walk st (c ∷ cs) [] d p = p
walk st (c ∷ cs) (e ∷ ds) d p = walk_on (st c (advance (e - d) p)) (λ (q : Configuration). walk st cs ds e q) p

-- The first date at which an action offered at t can be played.
abbrev pub earliest : Monitor → ℕ → ℕ
earliest b t = max t b.last

-- The configuration at that date.
abbrev pub standing : Monitor → ℕ → Configuration
standing b t = advance (earliest b t - b.last) b.configuration

abbrev pub is_dead : Prospect → Bool
is_dead (ticks n) = false
is_dead extensible = false
is_dead dead = true

-- None of the first n actions can come next.
unfoldable pub none_next : Compiled → Configuration → ℕ → Bool
none_next m p zero = true
none_next m p (suc n) = is_dead (prospect m (n ∷ []) p) && none_next m p n

-- Whether the lamp is lit, where p is the configuration at the first date at which an action could be played.
unfoldable pub is_lit : Compiled → Configuration → List ℕ → Bool
is_lit m p [] = none_next m p m.known
is_lit m p (c ∷ cs) = is_dead (prospect m (c ∷ cs) p)

-- The lamp by the rule, of a monitor's date, pending actions and configuration.
unfoldable pub lamp_lit : Compiled → Monitor → Bool
lamp_lit m b = is_lit m (standing b b.date) (actions_of b.pending)

-- The monitor with its lamp by the rule.
abbrev pub with_lamp : Compiled → Monitor → Monitor
with_lamp m b = record { date = b.date; pending = b.pending; schedule = b.schedule; configuration = b.configuration; last = b.last; numbered = b.numbered; lit = lamp_lit m b }

abbrev pub fresh_monitor : Automaton → Monitor
fresh_monitor a = with_lamp (compile a.bytes) (record { date = a.loaded; pending = []; schedule = []; configuration = saturated (has_one_clock a.bytes) (origin a); last = a.loaded; numbered = 0; lit = false })

abbrev pub same : Monitor → Reason → Answered
same b r = record { outcome = refused r; monitor = b }

-- Only the date moves and the lamp with it, and n offers are numbered.
abbrev pub dated : Compiled → Monitor → ℕ → ℕ → Monitor
dated m b t n = with_lamp m (record { date = t; pending = b.pending; schedule = b.schedule; configuration = b.configuration; last = b.last; numbered = n; lit = b.lit })

-- The pending actions with c, offered at t, added at their end with the next number.
abbrev pub joins : Monitor → ℕ → ℕ → List Request
joins b c t = b.pending ++ (record { action = c; number = suc b.numbered; offered = t } ∷ [])

-- Case 1, by whether it ends too late and whether it has too many actions.
unfoldable pub placed : Compiled → Monitor → ℕ → ℕ → List ℕ → ℕ → Bool → Bool → Answered
placed m b c t ds last true many = same b s_2
placed m b c t ds last false true = same b s_3
placed m b c t ds last false false = record {
  outcome = scheduled (length ds) last;
  monitor = with_lamp m (record { date = t; pending = []; schedule = b.schedule ++ place (joins b c t) ds; configuration = walk m.step (actions_of (joins b c t)) ds (earliest b t) (standing b t); last = last; numbered = suc b.numbered; lit = b.lit });
}

-- Case 2, by whether the pending actions are too many.
unfoldable pub kept : Compiled → Monitor → ℕ → ℕ → Bool → Answered
kept m b c t true = same b s_4
kept m b c t false = record { outcome = held; monitor = with_lamp m (record { date = t; pending = joins b c t; schedule = b.schedule; configuration = b.configuration; last = b.last; numbered = suc b.numbered; lit = b.lit }) }

unfoldable pub decided : Compiled → Monitor → ℕ → ℕ → (Configuration → ℕ → List ℕ) → Prospect → Answered
decided m b c t g (ticks n) =
    let ds : List ℕ = g (standing b t) (earliest b t) in
    placed m b c t ds (earliest b t + n) (ltb max_date (earliest b t + n)) (ltb (max_scheduled - length b.schedule) (length (joins b c t)))
decided m b c t g extensible = kept m b c t (leb max_count (length b.pending))
decided m b c t g dead = record { outcome = dropped; monitor = dated m b t (suc b.numbered) }

-- By whether the action is known, the date too late, and past, and whether all numbers are given.
unfoldable pub checked : Compiled → Monitor → ℕ → ℕ → Bool → Bool → Bool → Bool → Answered
checked m b c t false late past spent = same b i_7
checked m b c t true true past spent = same b i_8
checked m b c t true false true spent = same b s_1
checked m b c t true false false true = same b s_5
checked m b c t true false false false = let pl : Plan = plan m (actions_of (joins b c t)) in decided m b c t pl.dates (pl.prospect (standing b t))

unfoldable pub offered : Compiled → Monitor → ℕ → ℕ → Answered
offered m b c t = checked m b c t (ltb c m.known) (ltb max_date t) (ltb t b.date) (leb max_numbered b.numbered)

-- The oldest scheduled event, by whether its date has come.
unfoldable pub taken : Compiled → Monitor → ℕ → Slot → List Slot → Bool → Answered
taken m b t e rest true = record { outcome = played e.request.action e.date e.request.number e.request.offered; monitor = with_lamp m (record { date = t; pending = b.pending; schedule = rest; configuration = b.configuration; last = b.last; numbered = b.numbered; lit = b.lit }) }
taken m b t e rest false = record { outcome = nothing; monitor = dated m b t b.numbered }

unfoldable pub oldest : Compiled → Monitor → ℕ → List Slot → Answered
oldest m b t [] = record { outcome = nothing; monitor = dated m b t b.numbered }
oldest m b t (e ∷ rest) = taken m b t e rest (leb e.date t)

unfoldable pub picked : Compiled → Monitor → ℕ → Bool → Bool → Answered
picked m b t true past = same b i_8
picked m b t false true = same b s_1
picked m b t false false = oldest m b t b.schedule

unfoldable pub collected : Compiled → Monitor → ℕ → Answered
collected m b t = picked m b t (ltb max_date t) (ltb t b.date)

unfoldable pub answer : Compiled → Monitor → Call → Answered
answer m b (offer c t) = offered m b c t
answer m b (collect t) = collected m b t
answer m b lamp = record { outcome = cond b.lit lit dark; monitor = b }

pub record Replayed : Type 0 where
  pub outcomes : List Outcome
  pub monitor : Monitor

-- A list of calls, each on the monitor that the one before left.
unfoldable pub replay : Compiled → Monitor → List Call → Replayed
replay m b [] = record { outcomes = []; monitor = b }
replay m b (k ∷ ks) =
    let r : Answered = answer m b k in
    let z : Replayed = replay m r.monitor ks in
    record { outcomes = r.outcome ∷ z.outcomes; monitor = z.monitor }
