-- What a list of actions comes to from a set of configurations.
-- Assumes nothing.
use mathlib.Core.Path.{◌≡◌, refl, ap, sym, ◌∙◌, subst, subst⁻¹}
use mathlib.Core.Bool.{Bool, true, true≢false}
use mathlib.Core.List.{List, [], ◌∷◌}
use mathlib.Core.Logic.{◌↔◌}
use Prim.Native.Nat.{ℕ, suc, ◌+◌, ◌-◌, ◌^◌, ◌≤◌, ◌<◌}
use native.Mathlib.Omega.{arith}
use native.Mathlib.Nat.{lt_of_le_of_lt}
use native.Mathlib.Numerals.{add-one}
use lib.ListN.{length, get_or, take, drop, length-drop, drop_of_length-le}
use lib.Seq.{drop-cons, length-take-le}
use lib.Bits.{bit_and, and_le_l}
use borrow.Author.Tests.{eq-eqb}
use Rattle.enforcement.specs.Automaton.{Bytes, word, accepting, clocks}
use Rattle.enforcement.specs.Loading.{WellFormed}
use Rattle.enforcement.specs.TimedWord.{Configuration}
use Rattle.enforcement.specs.Model.{top, Prospect, ticks, extensible, dead, prospect, compile}
use Rattle.enforcement.specs.Monitor.{is_lit}
use Rattle.enforcement.proofs.Bits.{none_in, in_and, some_in}
use Rattle.retimer.specs.declared.outlook.Outlook.{Outlook}
use Rattle.retimer.specs.declared.outlook.Outlook.TheVariants.{Correct, Extensible, Dead}
use Rattle.retimer.specs.Counts.{counted}
use Rattle.retimer.specs.Meeting.{Meets}
use Rattle.retimer.specs.Live.{LiveTable}
use Rattle.retimer.specs.Sets.{height, Contains, Reached, Played, Elapsed, Single}
use Rattle.retimer.specs.Outlook.{outlook_of, front_of, Ends, Lives, Some, SomeLive, OutlookBy, Rated, RatedLast}
use Rattle.retimer.proofs.ProspectKinds.{Kind, ends_kind, lives_kind, advance_none, prospect_kind}
use Rattle.retimer.proofs.Played.{sooner_live, ends_nil, lives_nil, ends_is, lives_is, dead_is, dark_is}
use Rattle.retimer.proofs.Stuck.{lit_some}
use Rattle.retimer.proofs.sets.Landing.{contains_readings, reached_known}
use Rattle.retimer.proofs.sets.Waiting.{in_same}

-- ---- The set where all is played

module _ (s : Bytes) (set : List ℕ) (places accepts : ℕ) (r : Reached s set places) (small : places < 2 ^ 16) (e : accepts ≡ word s 4) where
  pub rate_correct : (bit_and places accepts ≡ 0 → ⊥) → Some Ends s [] set
  rate_correct z =
      let w = some_in 16 (bit_and places accepts) (lt_of_le_of_lt (and_le_l places accepts) small) z in
      let k = (in_and places accepts w.0).0 w.1 in
      let m = (r.members w.0).0 k.0 in
      record { member = m.0; contained = m.2; good = (ends_nil s m.0).1 (ap (accepting s) m.1 ∙ in_same w.0 e k.1) }

  -- No member is at an accepting location.
  pub none_ends : bit_and places accepts ≡ 0 → Some Ends s [] set → ⊥
  none_ends z w =
      let l : ℕ = w.member.location in
      none_in l (in_same l z ((in_and places accepts l).1 ((r.members l).1 (w.member, refl, w.contained), in_same l (sym e) ((ends_nil s w.member).0 w.good))))

-- The table of live configurations and the set have a member in common just when the set has a live one.
pub live_met : {s : Bytes} {live set : List ℕ} {places : ℕ} → LiveTable s live → Reached s set places → Meets s live set ↔ SomeLive s set
live_met {s} {live} {set} t r = (λ w. (w.0, w.1, sym (same w.0 w.1) ∙ w.2), λ w. (w.0, w.1, same w.0 w.1 ∙ w.2))
  where
    saturated : (q : Configuration) (m : Contains s set q) → clocks s ≡ 1 → q.y ≡ top
    saturated q m e = let h : height s ≡ 1 = rw (eq-eqb (clocks s) 1 e) refl in omega (arith, m.reads, m.inside)

    same : (q : Configuration) → Contains s set q → counted live q.location q.x q.y ≡ (compile s).live q
    same q m =
        let k = contains_readings r.whole m in
        t.right q.location (q.x ∷ q.y ∷ []) (record { in_sheet = reached_known r m; readings = record { two = refl; first = k.0; second = k.1 }; one_clock = saturated q m })

-- ---- One action after another

-- The answer by the same facts in other words.
answers_same : {E L F E' L' F' : Type 0} → E ↔ E' → L ↔ L' → F ↔ F' → (o : Outlook) → OutlookBy E L F o → OutlookBy E' L' F' o
answers_same e l f Correct w = e.0 w
answers_same e l f Extensible w = (λ v. w.0 (e.1 v), l.0 w.1)
answers_same e l f (Dead x) w = (λ v. w.0 (l.1 v), (λ z. f.0 (w.1.0 z), λ v. w.1.1 (f.1 v)))

front_more : (c : ℕ) (cs : List ℕ) → 0 < length cs → front_of (c ∷ cs) ≡ c ∷ front_of cs
front_more c [] h = absurd (omega arith)
front_more c (d ∷ cs) h = let e : suc (suc (length cs)) - 1 ≡ suc (suc (length cs) - 1) = omega arith in ap (λ (n : ℕ). take n (c ∷ d ∷ cs)) e

module _ (s : Bytes) (loads : WellFormed s) {set : List ℕ} {places : ℕ} (r : Reached s set places) where
  -- Where all is played, the live members are those whose prospect is not dead.
  live_some : SomeLive s set ↔ Some Lives s [] set
  live_some = (
    λ w. record { member = w.0; contained = w.1; good = (lives_nil s loads w.0 (contains_readings r.whole w.1)).1 w.2 },
    λ w. (w.member, w.contained, (lives_nil s loads w.member (contains_readings r.whole w.contained)).0 w.good),
  )

  -- There is one just when there is one after any wait.
  live_elapsed : {new : List ℕ} → Elapsed s set new places → SomeLive s new ↔ SomeLive s set
  live_elapsed a = (
    λ w. let d = (a.right w.0).0 w.1 in (d.0, d.2, sooner_live s loads d.1 d.0 (contains_readings r.whole d.2) (subst (λ (q : Configuration). (compile s).live q ≡ true) d.3 w.2)),
    λ w. (w.0, (a.right w.0).1 (w.0, 0, w.1, sym (advance_none w.0 (contains_readings r.whole w.1))), w.2),
  )

module _ (s : Bytes) (cs set nxt : List ℕ) (k c places found : ℕ) (less : k < length cs) (is : c ≡ get_or cs k 0) (r : Reached s set places) (p : Played s c set nxt found) where
  left : drop k cs ≡ c ∷ drop (k + 1) cs
  left = drop-cons cs k 0 less ∙ rw (add-one k, is) refl

  -- The next set has a member of the kind just when the set has.
  some_before : (G : Prospect → Type 0) → Kind G → (ds : List ℕ) → Some G s ds nxt ↔ Some G s (c ∷ ds) set
  some_before G g ds = (
    λ a. let m = (p.right a.member).0 a.contained in record { member = m.from; contained = m.member; good = (prospect_kind G g s c ds m.from (contains_readings r.whole m.member)).1 (m.ticks, a.member, m.steps, a.good) },
    λ a. let w = (prospect_kind G g s c ds a.member (contains_readings r.whole a.contained)).0 a.good in record { member = w.1; contained = (p.right w.1).1 (record { from = a.member; member = a.contained; ticks = w.0; steps = w.2 }); good = w.3 },
  )

  -- The last action is played, and the set has waited.
  pub rated_last : WellFormed s → {new : List ℕ} → Elapsed s set new places → k + 1 ≡ length cs → (o : Outlook) → RatedLast s new nxt o → Rated s (drop k cs) set o
  rated_last loads a e o h =
      let all : length cs ≤ k + 1 = omega arith in
      let live = live_some s loads p.reached in
      let some = some_before Lives lives_kind [] in
      let first = live_elapsed s loads r a in
      let old = live_some s loads r in
      subst⁻¹ (λ (l : List ℕ). Rated s l set o) (left ∙ ap (λ (l : List ℕ). c ∷ l) (drop_of_length-le cs all))
      (answers_same (some_before Ends ends_kind []) (λ w. some.0 (live.0 w), λ w. live.1 (some.1 w)) (λ w. old.0 (first.0 w), λ w. first.1 (old.1 w)) o h)

  module _ (more : k + 1 < length cs) where
    rest : 0 < length (drop (k + 1) cs)
    rest = omega (arith, length-drop (k + 1) cs)

    -- Another action is left, so this one is played without the last too.
    front : Some Lives s (front_of (drop (k + 1) cs)) nxt ↔ Some Lives s (front_of (c ∷ drop (k + 1) cs)) set
    front = rw (front_more c (drop (k + 1) cs) rest) (some_before Lives lives_kind (front_of (drop (k + 1) cs)))

    pub rated_next : (o : Outlook) → Rated s (drop (k + 1) cs) nxt o → Rated s (drop k cs) set o
    rated_next o h = subst⁻¹ (λ (l : List ℕ). Rated s l set o) left (answers_same (some_before Ends ends_kind (drop (k + 1) cs)) (some_before Lives lives_kind (drop (k + 1) cs)) front o h)

    -- Nothing is reached, with or without the last action.
    pub rated_none : found ≡ 0 → Rated s (drop k cs) set (Dead true)
    rated_none z = rated_next (Dead true) (none, (λ e. absurd (true≢false e), λ w. absurd (none w)))
      where
        none : {ds : List ℕ} → Some Lives s ds nxt → ⊥
        none w = none_in w.member.location (in_same w.member.location z ((p.reached.members w.member.location).1 (w.member, refl, w.contained)))

-- ---- The answer

module _ (s : Bytes) (cs : List ℕ) (q : Configuration) (set : List ℕ) (places : ℕ) (u : Single s q set places) where
  some_single : (G : Prospect → Type 0) (cs : List ℕ) → Some G s cs set ↔ G (prospect (compile s) cs q)
  some_single G cs = (
    λ w. subst (λ (p : Configuration). G (prospect (compile s) cs p)) ((u.only w.member).0 w.contained) w.good,
    λ h. record { member = q; contained = (u.only q).1 refl; good = h },
  )

  pub answer_is : 1 < length cs → (o : Outlook) → Rated s cs set o → o ≡ outlook_of (prospect (compile s) cs q) (is_lit (compile s) q (front_of cs))
  answer_is l Correct h = ends_is (prospect (compile s) cs q) (is_lit (compile s) q (front_of cs)) ((some_single Ends cs).0 h)
  answer_is l Extensible h = lives_is (prospect (compile s) cs q) (is_lit (compile s) q (front_of cs)) (λ k. h.0 ((some_single Ends cs).1 k)) ((some_single Lives cs).0 h.1)
  answer_is l (Dead x) h = dead_is (prospect (compile s) cs q) (λ k. h.0 ((some_single Lives cs).1 k)) (lit_some (compile s) q (front_of cs) x (λ e. omega (arith, length-take-le (length cs - 1) cs (omega arith))) (dark_is (prospect (compile s) (front_of cs) q) x (λ e. (some_single Lives (front_of cs)).0 (h.1.0 e), λ k. h.1.1 ((some_single Lives (front_of cs)).1 k))))

-- ---- The prospect that an answer stands for

pub correct_prospect : (a : Prospect) (x : Bool) {o : Outlook} → o ≡ Correct → o ≡ outlook_of a x → (n : ℕ) × (a ≡ ticks n)
correct_prospect (ticks n) x e f = (n, refl)
correct_prospect extensible x e f = let z : ◌≡◌ {A = ℕ} 0 1 = cc in absurd (omega arith)
correct_prospect dead x e f = let z : ◌≡◌ {A = ℕ} 0 1 = cc in absurd (omega arith)

pub extensible_prospect : (a : Prospect) (x : Bool) {o : Outlook} → o ≡ Extensible → o ≡ outlook_of a x → a ≡ extensible
extensible_prospect (ticks n) x e f = let z : ◌≡◌ {A = ℕ} 0 1 = cc in absurd (omega arith)
extensible_prospect extensible x e f = refl
extensible_prospect dead x e f = let z : ◌≡◌ {A = ℕ} 0 1 = cc in absurd (omega arith)

pub dead_prospect : (a : Prospect) (x : Bool) {o : Outlook} {y : Bool} → o ≡ Dead y → o ≡ outlook_of a x → a ≡ dead
dead_prospect (ticks n) x e f = let z : ◌≡◌ {A = ℕ} 0 1 = cc in absurd (omega arith)
dead_prospect extensible x e f = let z : ◌≡◌ {A = ℕ} 0 1 = cc in absurd (omega arith)
dead_prospect dead x e f = refl

-- The lamp that a dead answer has.
pub dead_lamp : (a : Prospect) (x : Bool) {o : Outlook} {y : Bool} → o ≡ Dead y → o ≡ outlook_of a x → y ≡ x
dead_lamp (ticks n) x e f = let z : ◌≡◌ {A = ℕ} 0 1 = cc in absurd (omega arith)
dead_lamp extensible x e f = let z : ◌≡◌ {A = ℕ} 0 1 = cc in absurd (omega arith)
dead_lamp dead x e f = cc
