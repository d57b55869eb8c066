-- The history of a list of calls is unique: no call has two answers.
use mathlib.Core.Path.{◌≡◌, refl, ap, ap₂, sym, ◌∙◌, subst⁻¹}
use mathlib.Core.List.{List, ◌∷◌}
use mathlib.Core.Logic.{◌⊎◌, inl, inr}
use Prim.Native.Nat.{ℕ, ◌≤◌, ◌<◌}
use native.Mathlib.Omega.{arith}
use lib.ListN.{length}
use Rattle.enforcement.specs.Limits.{max_count, max_date, max_numbered}
use Rattle.enforcement.specs.Automaton.{Automaton, actions}
use Rattle.enforcement.specs.TimedWord.{last_of}
use Rattle.enforcement.specs.Reason.{i_7, i_8, s_1, s_2, s_3, s_4, s_5}
use Rattle.enforcement.specs.History.{Slot, History, schedule, free_slots, Call, offer, collect, lamp, Outcome, scheduled, held, dropped, played, nothing, lit, dark, refused, joined, Corrects, Chosen, IsOpen, after_schedule, after_hold, after_drop, after_date, after_play, Dark, Answers, unknown, late, past, no_number, too_late, no_place, full, late_collect, past_collect, plays, too_early, empty, is_dark, is_lit_lamp, HistoryOf, end, call}
use Rattle.enforcement.proofs.Slots.{actions_length}
use Rattle.enforcement.proofs.Corrections.{best_same}

-- ---- Answers by case

-- What may be said of an outcome and the history after it.
abbrev Result : Type 1
Result = Outcome → History → Type 0

-- It is said of at most one.
abbrev Single : Result → Type 0
Single X = (o o' : Outcome) (ℋ ℋ' : History) → X o ℋ → X o' ℋ' → (o ≡ o') × (ℋ ≡ ℋ')

-- A tree of questions, with what is said at its leaves.
data Tree : Type 1 where
  ask : Type 0 → Tree → Tree → Tree
  only : Outcome → History → Tree
  single : (X : Result) → Single X → Tree

abbrev Says : Tree → Result
Says (ask P l r) o ℋ = (P × Says l o ℋ) ⊎ ((P → ⊥) × Says r o ℋ)
Says (only o' ℋ') o ℋ = (o ≡ o') × (ℋ ≡ ℋ')
Says (single X s) o ℋ = X o ℋ

says_single : (z : Tree) → Single (Says z)
says_single (ask P l r) o o' ℋ ℋ' (inl h) (inl k) = says_single l o o' ℋ ℋ' h.1 k.1
says_single (ask P l r) o o' ℋ ℋ' (inl h) (inr k) = absurd (k.0 h.0)
says_single (ask P l r) o o' ℋ ℋ' (inr h) (inl k) = absurd (h.0 k.0)
says_single (ask P l r) o o' ℋ ℋ' (inr h) (inr k) = says_single r o o' ℋ ℋ' h.1 k.1
says_single (only a b) o o' ℋ ℋ' h k = (h.0 ∙ sym k.0, h.1 ∙ sym k.1)
says_single (single X s) o o' ℋ ℋ' h k = s o o' ℋ ℋ' h k

module _ (𝒜 : Automaton) (ℋ : History) where
  -- ---- Offers

  module _ (c t : ℕ) where
    -- The outcome and the history of the best correction.
    abbrev Scheduled : Result
    Scheduled o ℋ' = (ds : List ℕ) × Chosen 𝒜 ℋ c t ds × (o ≡ scheduled (length ds) (last_of 0 ds)) × (ℋ' ≡ after_schedule ℋ c t ds)

    scheduled_single : Single Scheduled
    scheduled_single o o' ℋ₁ ℋ₂ h k =
        let e : h.0 ≡ k.0 = best_same h.1 k.1 in
        (h.2 ∙ ap (λ (x : List ℕ). scheduled (length x) (last_of 0 x)) e ∙ sym k.2, h.3 ∙ ap (after_schedule ℋ c t) e ∙ sym k.3)

    -- The questions that decide an offer, in order.
    abbrev offer_tree : Tree
    offer_tree =
        ask (c < actions 𝒜.bytes)
        (ask (t ≤ max_date)
        (ask (ℋ.date ≤ t)
        (ask (ℋ.numbered < max_numbered)
        (ask ((ds : List ℕ) × Corrects 𝒜 ℋ c t ds)
        (ask ((ds : List ℕ) × Corrects 𝒜 ℋ c t ds × (last_of 0 ds ≤ max_date)) (ask (length (joined ℋ c t) ≤ free_slots ℋ) (single Scheduled scheduled_single) (only (refused s_3) ℋ)) (only (refused s_2) ℋ))
        (ask (IsOpen 𝒜 ℋ c t) (ask (length ℋ.pending < max_count) (only held (after_hold ℋ c t)) (only (refused s_4) ℋ)) (only dropped (after_drop ℋ t))))
        (only (refused s_5) ℋ))
        (only (refused s_1) ℋ))
        (only (refused i_8) ℋ))
        (only (refused i_7) ℋ)

    fits : (ds : List ℕ) → Chosen 𝒜 ℋ c t ds → length ds ≡ length (joined ℋ c t)
    fits ds b = b.correction.timing.each ∙ actions_length (joined ℋ c t)

    offer_says : {o : Outcome} {ℋ' : History} → Answers 𝒜 ℋ (offer c t) o ℋ' → Says offer_tree o ℋ'
    offer_says (unknown h) = inr ((λ x. omega arith), (refl, refl))
    offer_says (late h k) = inl (h, inr ((λ x. omega arith), (refl, refl)))
    offer_says (past h k l) = inl (h, inl (k, inr ((λ x. omega arith), (refl, refl))))
    offer_says (no_number h k l n) = inl (h, inl (k, inl (l, inr ((λ x. omega arith), (refl, refl)))))
    offer_says (too_late {ds = ds} p x f) = inl (p.known, inl (p.early, inl (p.current, inl (p.countable, inl ((ds, x), inr ((λ y. omega (arith, f y.0 y.1, y.2)), (refl, refl)))))))
    offer_says (no_place {ds = ds} p b h k) =
        inl (p.known, inl (p.early, inl (p.current, inl (p.countable, inl ((ds, b.correction), inl ((ds, b.correction, h), inr ((λ y. omega (arith, fits ds b)), (refl, refl))))))))
    offer_says (Answers.schedules {ds = ds} p b h k) =
        inl (p.known, inl (p.early, inl (p.current, inl (p.countable, inl ((ds, b.correction), inl ((ds, b.correction, h), inl (omega (arith, fits ds b), (ds, b, refl, refl))))))))
    offer_says (full p u o h) = inl (p.known, inl (p.early, inl (p.current, inl (p.countable, inr ((λ y. u y.0 y.1), inl (o, inr ((λ y. omega arith), (refl, refl))))))))
    offer_says (Answers.holds p u o h) = inl (p.known, inl (p.early, inl (p.current, inl (p.countable, inr ((λ y. u y.0 y.1), inl (o, inl (h, (refl, refl))))))))
    offer_says (Answers.drops p u n) = inl (p.known, inl (p.early, inl (p.current, inl (p.countable, inr ((λ y. u y.0 y.1), inr (n, (refl, refl)))))))

  -- ---- Collects

  module _ (t : ℕ) where
    -- The outcome and the history of the oldest scheduled action.
    abbrev Played : Result
    Played o ℋ' = (e : Slot) × (rest : List Slot) × (schedule ℋ ≡ e ∷ rest) × (o ≡ played e.request.action e.date e.request.number e.request.offered) × (ℋ' ≡ after_play ℋ t)

    heads : {e f : Slot} {u v w : List Slot} → w ≡ e ∷ u → w ≡ f ∷ v → e ≡ f
    heads p q = cc

    played_single : Single Played
    played_single o o' ℋ₁ ℋ₂ h k = (h.3 ∙ ap (λ (e : Slot). played e.request.action e.date e.request.number e.request.offered) (heads h.2 k.2) ∙ sym k.3, h.4 ∙ sym k.4)

    -- The questions that decide a collect, in order.
    abbrev collect_tree : Tree
    collect_tree =
        ask (t ≤ max_date)
        (ask (ℋ.date ≤ t)
        (ask ((e : Slot) × (rest : List Slot) × (schedule ℋ ≡ e ∷ rest) × (e.date ≤ t)) (single Played played_single) (only nothing (after_date ℋ t)))
        (only (refused s_1) ℋ))
        (only (refused i_8) ℋ)

    collect_says : {o : Outcome} {ℋ' : History} → Answers 𝒜 ℋ (collect t) o ℋ' → Says collect_tree o ℋ'
    collect_says (late_collect h) = inr ((λ x. omega arith), (refl, refl))
    collect_says (past_collect h k) = inl (h, inr ((λ x. omega arith), (refl, refl)))
    collect_says (plays {e = e} {rest = rest} h k x l) = inl (h, inl (k, inl ((e, rest, x, l), (e, rest, x, refl, refl))))
    collect_says (too_early {e = e} {rest = rest} h k x l) = inl (h, inl (k, inr ((λ y. omega (arith, y.3, ap (λ (z : Slot). z.date) (heads x y.2))), (refl, refl))))
    collect_says (empty h k x) = inl (h, inl (k, inr ((λ y. let z = y.2 in let o : ◌≡◌ {A = ℕ} 0 1 = cc in omega arith), (refl, refl))))

  -- ---- The lamp

  abbrev lamp_tree : Tree
  lamp_tree = ask (Dark 𝒜 ℋ) (only dark ℋ) (only lit ℋ)

  lamp_says : {o : Outcome} {ℋ' : History} → Answers 𝒜 ℋ lamp o ℋ' → Says lamp_tree o ℋ'
  lamp_says (is_dark h) = inl (h, (refl, refl))
  lamp_says (is_lit_lamp h) = inr (h, (refl, refl))

  pub one_answer : (k : Call) {o o' : Outcome} {ℋ₁ ℋ₂ : History} → Answers 𝒜 ℋ k o ℋ₁ → Answers 𝒜 ℋ k o' ℋ₂ → (o ≡ o') × (ℋ₁ ≡ ℋ₂)
  one_answer (offer c t) h k = says_single (offer_tree c t) _ _ _ _ (offer_says c t h) (offer_says c t k)
  one_answer (collect t) h k = says_single (collect_tree t) _ _ _ _ (collect_says t h) (collect_says t k)
  one_answer lamp h k = says_single lamp_tree _ _ _ _ (lamp_says h) (lamp_says k)

pub one_history : (𝒜 : Automaton) (ℋ : History) (ks : List Call) (os os' : List Outcome) (ℋ₁ ℋ₂ : History) → HistoryOf 𝒜 ℋ ks os ℋ₁ → HistoryOf 𝒜 ℋ ks os' ℋ₂ → (os ≡ os') × (ℋ₁ ≡ ℋ₂)
one_history 𝒜 ℋ ks os os' ℋ₁ ℋ₂ end end = (refl, refl)
one_history 𝒜 ℋ ks os os' ℋ₁ ℋ₂ (call {h' = x} {k = k} {ks = rest} {os = us} h r) (call {h' = y} {os = vs} h' r') =
    let e = one_answer 𝒜 ℋ k h h' in
    let z = one_history 𝒜 x rest us vs ℋ₁ ℋ₂ r (subst⁻¹ (λ (u : History). HistoryOf 𝒜 u rest vs ℋ₂) e.1 r') in
    (ap₂ ◌∷◌ e.0 z.0, z.1)
