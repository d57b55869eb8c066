-- Histories of lists of calls put together, histories in which nothing was played, and calls before the loading date.
use mathlib.Core.Path.{◌≡◌, refl, ap, sym, ◌∙◌}
use mathlib.Core.List.{List, [], ◌∷◌, ◌++◌}
use Prim.Native.Nat.{ℕ, zero, suc, ◌≤◌, ◌<◌}
use native.Mathlib.Omega.{arith}
use lib.ListN.{length, take, drop}
use Rattle.enforcement.specs.Limits.{max_date}
use Rattle.enforcement.specs.Automaton.{Automaton, actions}
use Rattle.enforcement.specs.Reason.{s_1}
use Rattle.enforcement.specs.History.{History, Slot, fresh, schedule, Call, offer, collect, Outcome, refused, Answers, past, past_collect, HistoryOf, end, call}
use Rattle.enforcement.specs.Constraints.{played_of}
use Rattle.enforcement.proofs.Constraints.{played_in_order}
use Rattle.enforcement.proofs.Numbers.{not_before}

-- A history, and then another from its end.
pub history_append : (a : Automaton) (h h' h'' : History) (ks more : List Call) (os us : List Outcome) → HistoryOf a h ks os h' → HistoryOf a h' more us h'' → HistoryOf a h (ks ++ more) (os ++ us) h''
history_append a h h' h'' ks more os us end q = q
history_append a h h' h'' ks more os us (call {h' = m} {ks = rest} {os = ps} x r) q = call x (history_append a m h' h'' rest more ps us r q)

take_none : (n : ℕ) (w : List Slot) → take n w ≡ [] → n ≤ length w → n ≡ 0
take_none zero w e l = refl
take_none (suc n) [] e l = absurd (omega arith)
take_none (suc n) (x ∷ w) e l = let z : ◌≡◌ {A = ℕ} 0 1 = cc in absurd (omega arith)

-- Where nothing was played, everything ever scheduled is in the schedule.
pub none_played : (a : Automaton) (h : History) (ks : List Call) (os : List Outcome) → HistoryOf a (fresh a) ks os h → played_of os ≡ [] → schedule h ≡ h.scheduled
none_played a h ks os r e =
    let p = played_in_order a h ks os r in
    ap (λ (n : ℕ). drop n h.scheduled) (take_none h.played h.scheduled (sym p.0 ∙ e) p.1)

-- A collection before the loading date is S-1, after any calls, and so is an offer of one of the sheet's actions.
pub before_loading : (a : Automaton) (h : History) (ks : List Call) (os : List Outcome) → HistoryOf a (fresh a) ks os h → a.loaded ≤ max_date → (t : ℕ) → t < a.loaded
    → Answers a h (collect t) (refused s_1) h × ((c : ℕ) → c < actions a.bytes → Answers a h (offer c t) (refused s_1) h)
before_loading a h ks os r l t e = let b = not_before a h ks os r in (past_collect {t = t} (omega arith) (omega arith), λ c k. past {t = t} k (omega arith) (omega arith))
