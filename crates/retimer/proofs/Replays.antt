-- Laws of a list of calls in bytes.
-- Assumes nothing.
use mathlib.Core.Path.{◌≡◌, refl, ap, sym, ◌∙◌, subst}
use mathlib.Core.List.{List, [], ◌∷◌, ◌++◌, map-append}
use Prim.Native.Nat.{ℕ, zero, suc, ◌+◌, ◌*◌, ◌/◌}
use native.Mathlib.Omega.{arith}
use native.Mathlib.Numerals.{add-one}
use lib.ListN.{length}
use borrow.Author.Tests.{eq-eqb, ne_eqb}
use Rattle.std.specs.Prelude.{Result}
use Rattle.enforcement.specs.Automaton.{Bytes, byte}
use Rattle.enforcement.specs.History.{Call, offer, collect, Outcome, nothing}
use Rattle.retimer.specs.declared.limits.State.{State}
use Rattle.retimer.specs.declared.limits.Monitor.{Monitor}
use Rattle.retimer.specs.declared.state.Answer.{Answer}
use Rattle.retimer.specs.declared.state.Answer.TheVariants.{Held, Nothing}
use Rattle.retimer.specs.declared.state.Moved.{Moved}
use Rattle.retimer.specs.declared.monitor.Answered.{Answered}
use Rattle.retimer.specs.declared.reason.Reason.{Reason}
use Rattle.retimer.specs.declared.sheet.Counts.{Counts}
use Rattle.retimer.specs.Bytes.{double_word}
use Rattle.retimer.specs.View.{view_of, Valid}
use Rattle.retimer.specs.Calls.{outcome_of, MoveRight, CallRight, FreshRight}
use Rattle.retimer.specs.Demand3.{Made, end, outcomes_of, CodeDemand3}
use Rattle.retimer.specs.Replay.{call_at, calls_from, calls_of, last_outcome, Followed}
use Rattle.retimer.proofs.Demand3.{made_one_more, made_valid, code_demand_3}

-- ---- One call

pub call_collect : {sheet live : List ℕ} {q : State} {r : Moved} (s : Bytes) (i t : ℕ) → byte s i ≡ 255 → t ≡ double_word s (i + 1) → MoveRight sheet live q (collect t) r → MoveRight sheet live q (call_at s i) r
call_collect s i t e f c = rw (eq-eqb (byte s i) 255 e, ← f) c

pub call_offer : {sheet live : List ℕ} {q : State} {r : Moved} (s : Bytes) (i t : ℕ) → (byte s i ≡ 255 → ⊥) → t ≡ double_word s (i + 1) → MoveRight sheet live q (offer (byte s i) t) r → MoveRight sheet live q (call_at s i) r
call_offer s i t e f c = rw (ne_eqb (byte s i) 255 e, ← f) c

-- ---- The calls so far

calls_one_more : (s : Bytes) (n i : ℕ) → calls_from s (suc n) i ≡ calls_from s n i ++ (call_at s (i + 5 * n) ∷ [])
unfolding calls_from
calls_one_more s zero i = let z : i + 5 * 0 ≡ i = omega arith in rw z
calls_one_more s (suc n) i = let z : i + 5 * suc n ≡ i + 5 + 5 * n = omega arith in rw z (ap (λ (l : List Call). call_at s i ∷ l) (calls_one_more s n (i + 5)))

last_one_more : (o p : Outcome) (os : List Outcome) → last_outcome o (os ++ (p ∷ [])) ≡ p
last_one_more o p [] = refl
last_one_more o p (q ∷ os) = last_one_more q p os

-- After the first n calls, from the box b₀: what was answered, and the box that they left.
pub record Replaying (b₀ : Monitor) (s : Bytes) (n : ℕ) (b : Monitor) (a : Answer) : Type 0 where
  pub answers : List Answer
  pub made : Made b₀ (calls_from s n 0) answers b
  pub last_is : outcome_of a ≡ last_outcome nothing (outcomes_of answers)
  pub held_count : (h : ℕ) → a ≡ Held h → h ≡ length (view_of b).pending

pub replaying_none : (b₀ : Monitor) (s : Bytes) → Replaying b₀ s 0 b₀ Nothing
unfolding calls_from
replaying_none b₀ s = record { answers = []; made = end; last_is = refl; held_count = λ n e. let z : ◌≡◌ {A = ℕ} 0 1 = cc in absurd (omega arith) }

pub replaying_one : {b₀ b : Monitor} {s : Bytes} {n : ℕ} {a : Answer} {r : Answered} → Replaying b₀ s n b a → CallRight b (call_at s (5 * n)) r → Replaying b₀ s (n + 1) r.monitor r.answer
replaying_one {b₀} {b} {s} {n} {a} {r} p c =
    let k : 0 + 5 * n ≡ 5 * n = omega arith in
    let e : calls_from s (n + 1) 0 ≡ calls_from s n 0 ++ (call_at s (5 * n) ∷ []) = rw add-one (calls_one_more s n 0 ∙ ap (λ (j : ℕ). calls_from s n 0 ++ (call_at s j ∷ [])) k) in
    record {
      answers = p.answers ++ (r.answer ∷ []);
      made = subst (λ (ks : List Call). Made b₀ ks (p.answers ++ (r.answer ∷ [])) r.monitor) (sym e) (made_one_more r c p.made);
      last_is = sym (ap (last_outcome nothing) (map-append outcome_of p.answers (r.answer ∷ [])) ∙ last_one_more nothing (outcome_of r.answer) (outcomes_of p.answers));
      held_count = c.held_count;
    }

pub replaying_valid : {b₀ b : Monitor} {s : Bytes} {n : ℕ} {a : Answer} → Valid b₀ → Replaying b₀ s n b a → Valid b
replaying_valid v p = made_valid v p.made

pub replaying_all : {sheet : Bytes} {d : ℕ} {b₀ b : Monitor} {s : Bytes} {n : ℕ} {a : Answer} (k : Result Counts Reason) → FreshRight sheet d b₀ → Replaying b₀ s n b a → n ≡ length s / 5 → Followed sheet d (calls_of s) (record { checked = k; monitor = b; answer = a })
replaying_all {sheet} {d} {b₀} {b} {s} {n} k f p h =
    let m : Made b₀ (calls_of s) p.answers b = rw h at p.made in
    let z : CodeDemand3 sheet d (calls_of s) p.answers b = code_demand_3 sheet d b₀ f (calls_of s) p.answers b m in
    record { answers = p.answers; demand_3 = z; answer_is = p.last_is; held_count = λ h e. p.held_count h e ∙ ap length z.stands.pending_is }
