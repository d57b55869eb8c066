-- What the model works out is the optimum over exact readings, for any steps that do not see past saturation.
use mathlib.Core.Path.{◌≡◌, refl, subst, subst⁻¹}
use mathlib.Core.Bool.{Bool, true, false, cond}
use mathlib.Core.List.{List, [], ◌∷◌}
use mathlib.Core.Option.{Option, none, some}
use mathlib.Core.Logic.{inl, inr}
use Prim.Native.Nat.{ℕ, zero, suc, ◌+◌, ◌-◌, ◌≤◌}
use native.Mathlib.Omega.{arith}
use native.Mathlib.Nat.{eq-or-lt_of_le}
use lib.Dec.{T}
use borrow.Author.Tests.{leb-false}
use Rattle.enforcement.specs.TimedWord.{Configuration, elapse, Found, last_of, NotAfter}
use Rattle.enforcement.specs.Model.{Prospect, ticks, extensible, dead, later, keeps, better, advance, headroom, after_step, dates_after, waits, reads, ended, plan, Compiled, prospect, dates, saturated}
use Rattle.enforcement.proofs.Saturation.{Steps, Ending, saturated_option, Saturates, Fuelled, elapse_none, elapse_more, advance_saturated, fuelled_next, saturated_elapse, headroom_fuels}
use Rattle.enforcement.proofs.Runs.{Plays, found_map, plays_now, plays_later}
use Rattle.enforcement.proofs.Equations.{by_cond, prospect_nil, prospect_cons}

-- From date d, the prospect ends by z.
abbrev pub Within : ℕ → Prospect → ℕ → Type 0
Within z (ticks n) d = d + n ≤ z
Within z extensible d = ⊥
Within z dead d = ⊥

-- Something can still come of it.
abbrev pub NotDead : Prospect → ℕ → Type 0
NotDead (ticks n) d = Unit {0}
NotDead extensible d = Unit {0}
NotDead dead d = ⊥

-- What waiting and choosing keep.
pub record Lower (G : Prospect → ℕ → Type 0) : Type 0 where
  pub sooner : (a : Prospect) (d e : ℕ) → d ≤ e → G a e → G a d
  pub waited : (a : Prospect) (d : ℕ) → G a (suc d) → G (later a) d
  pub left : (a b : Prospect) (d : ℕ) → G a d → G (better a b) d
  pub right : (a b : Prospect) (d : ℕ) → G b d → G (better a b) d

pub within_lower : (z : ℕ) → Lower (Within z)
within_lower z = record { sooner = sooner'; waited = waited'; left = left'; right = right' }
  where
    sooner' : (a : Prospect) (d e : ℕ) → d ≤ e → Within z a e → Within z a d
    sooner' (ticks n) d e h k = omega arith
    sooner' extensible d e h k = k
    sooner' dead d e h k = k

    waited' : (a : Prospect) (d : ℕ) → Within z a (suc d) → Within z (later a) d
    waited' (ticks n) d k = omega arith
    waited' extensible d k = k
    waited' dead d k = k

    left' : (a b : Prospect) (d : ℕ) → Within z a d → Within z (better a b) d
    left' (ticks n) (ticks m) d k = by_cond n m (λ (x : Prospect). Within z x d) (λ _. k) (λ h. omega arith)
    left' (ticks n) extensible d k = k
    left' (ticks n) dead d k = k
    left' extensible b d k = absurd k
    left' dead b d k = absurd k

    right' : (a b : Prospect) (d : ℕ) → Within z b d → Within z (better a b) d
    right' (ticks n) (ticks m) d k = by_cond n m (λ (x : Prospect). Within z x d) (λ h. omega arith) (λ _. k)
    right' extensible (ticks m) d k = k
    right' dead (ticks m) d k = k
    right' (ticks n) extensible d k = absurd k
    right' extensible extensible d k = absurd k
    right' dead extensible d k = absurd k
    right' (ticks n) dead d k = absurd k
    right' extensible dead d k = absurd k
    right' dead dead d k = absurd k

pub not_dead_lower : Lower NotDead
not_dead_lower = record { sooner = λ a d e h k. k' a d e k; waited = waited'; left = left'; right = right' }
  where
    k' : (a : Prospect) (d e : ℕ) → NotDead a e → NotDead a d
    k' (ticks n) d e k = k
    k' extensible d e k = k
    k' dead d e k = k

    waited' : (a : Prospect) (d : ℕ) → NotDead a (suc d) → NotDead (later a) d
    waited' (ticks n) d k = k
    waited' extensible d k = k
    waited' dead d k = k

    left' : (a b : Prospect) (d : ℕ) → NotDead a d → NotDead (better a b) d
    left' (ticks n) (ticks m) d k = by_cond n m (λ (x : Prospect). NotDead x d) (λ _. tt) (λ _. tt)
    left' (ticks n) extensible d k = k
    left' (ticks n) dead d k = k
    left' extensible (ticks m) d k = k
    left' extensible extensible d k = k
    left' extensible dead d k = k
    left' dead b d k = absurd k

    right' : (a b : Prospect) (d : ℕ) → NotDead b d → NotDead (better a b) d
    right' (ticks n) (ticks m) d k = by_cond n m (λ (x : Prospect). NotDead x d) (λ _. tt) (λ _. tt)
    right' (ticks n) extensible d k = tt
    right' (ticks n) dead d k = tt
    right' extensible (ticks m) d k = k
    right' extensible extensible d k = k
    right' extensible dead d k = tt
    right' dead (ticks m) d k = k
    right' dead extensible d k = k
    right' dead dead d k = k

-- The last location is accepting.
abbrev pub AcceptedBy : Compiled → Ending
AcceptedBy m d q = T (m.accepts q.location)

-- From date d, the prospect does not end before z.
abbrev pub Tight : ℕ → Prospect → ℕ → Type 0
Tight z (ticks n) d = z ≤ d + n
Tight z extensible d = Unit {0}
Tight z dead d = Unit {0}

tight_later : (z : ℕ) (a : Prospect) (d : ℕ) → Tight z (later a) d → Tight z a (suc d)
tight_later z (ticks n) d h = omega arith
tight_later z extensible d h = tt
tight_later z dead d h = tt

-- What is not kept is worse.
worse : (z : ℕ) (a b : Prospect) (d : ℕ) → keeps a b ≡ false → Within z a d → Tight z b d → ⊥
worse z (ticks n) (ticks k) d e h t = omega (arith, leb-false n k e)
worse z (ticks n) extensible d e h t = let x : ◌≡◌ {A = ℕ} 0 1 = cc in omega arith
worse z (ticks n) dead d e h t = let x : ◌≡◌ {A = ℕ} 0 1 = cc in omega arith
worse z extensible b d e h t = h
worse z dead b d e h t = h

module _ (one : Bool) where
  module _ (st : Steps) (sat : Saturates one st) where
    -- Playing now, at saturated readings.
    now_low : (G : Prospect → ℕ → Type 0) (c : ℕ) (f : Configuration → Prospect) (p : Configuration) (d : ℕ) → Found (st c p) (λ (q : Configuration). G (f (saturated one q)) d) → G (after_step (st c (saturated one p)) f) d
    now_low G c f p d h = subst⁻¹ (λ (o : Option Configuration). G (after_step o f) d) (sat c p) (go (st c p) h)
      where
        go : (o : Option Configuration) → Found o (λ (q : Configuration). G (f (saturated one q)) d) → G (after_step (saturated_option one o) f) d
        go none k = absurd k
        go (some q) k = k

    waits_low : (G : Prospect → ℕ → Type 0) → Lower G → (c : ℕ) (f : Configuration → Prospect) (k : ℕ) (p : Configuration) (d e : ℕ) → Fuelled one k p → d ≤ e
        → Found (st c (elapse (e - d) p)) (λ (q : Configuration). G (f (saturated one q)) e) → G (waits st c f k (saturated one p)) d
    unfolding waits
    waits_low G L c f zero p d e fu h k =
        L.sooner (after_step (st c (saturated one p)) f) d e h
        (subst (λ (r : Configuration). G (after_step (st c r) f) e) (saturated_elapse one p (e - d) fu) (now_low G c f (elapse (e - d) p) e k))
    waits_low G L c f (suc j) p d e fu h k =
        elim (eq-or-lt_of_le h) [
          | inl q ↦
              L.left (after_step (st c (saturated one p)) f) (later (waits st c f j (advance 1 (saturated one p)))) d
              (now_low G c f p d
              (subst (λ (r : Configuration). Found (st c r) (λ (z : Configuration). G (f (saturated one z)) d)) (elapse_none p d)
              (subst⁻¹ (λ (m : ℕ). Found (st c (elapse (m - d) p)) (λ (z : Configuration). G (f (saturated one z)) m)) q k)))
          | inr l ↦
              L.right (after_step (st c (saturated one p)) f) (later (waits st c f j (advance 1 (saturated one p)))) d
              (L.waited (waits st c f j (advance 1 (saturated one p))) d
              (subst⁻¹ (λ (r : Configuration). G (waits st c f j r) (suc d)) (advance_saturated one p)
              (waits_low G L c f j (elapse 1 p) (suc d) e (fuelled_next one j p fu) l
              (subst⁻¹ (λ (r : Configuration). Found (st c r) (λ (z : Configuration). G (f (saturated one z)) e)) (elapse_more p d e l) k))))
        ]

  -- What every run of the actions shows of their prospect.
  pub low : (m : Compiled) → Saturates one m.step → (G : Prospect → ℕ → Type 0) → Lower G → (P : Ending) (cs ds : List ℕ) (d : ℕ) (p : Configuration)
      → ((q : Configuration) → P (last_of d ds) q → G (ended m.accepts m.live (saturated one q)) (last_of d ds)) → Plays m.step P d p cs ds → G (prospect m cs (saturated one p)) d
  low m sat G L P [] [] d p base h = subst⁻¹ (λ (a : Prospect). G a d) (prospect_nil m (saturated one p)) (base p h)
  low m sat G L P [] (e ∷ ds) d p base h = absurd h
  low m sat G L P (c ∷ cs) [] d p base h = absurd h
  low m sat G L P (c ∷ cs) (e ∷ ds) d p base h =
      subst⁻¹ (λ (a : Prospect). G a d) (prospect_cons m c cs (saturated one p))
      (waits_low m.step sat G L c (prospect m cs) (headroom (saturated one p)) p d e (headroom_fuels one p) h.0
      (found_map (m.step c (elapse (e - d) p)) (λ q k. low m sat G L P cs ds e q base k) h.1))

  -- Every accepted timing ends no earlier than the prospect says; where the prospect is no number, there is none.
  pub least : (m : Compiled) → Saturates one m.step → (cs ds : List ℕ) (d : ℕ) (p : Configuration) → Plays m.step (AcceptedBy m) d p cs ds → Within (last_of d ds) (prospect m cs (saturated one p)) d
  unfolding ended
  least m sat cs ds d p h = low m sat (Within (last_of d ds)) (within_lower (last_of d ds)) (AcceptedBy m) cs ds d p base h
    where
      go : (b a : Bool) → T b → Within (last_of d ds) (cond b (ticks 0) (cond a extensible dead)) (last_of d ds)
      go true a t = omega arith
      go false a t = absurd t

      base : (q : Configuration) → AcceptedBy m (last_of d ds) q → Within (last_of d ds) (ended m.accepts m.live (saturated one q)) (last_of d ds)
      base q t = go (m.accepts q.location) (m.live (saturated one q)) t

  -- What the dates that are read off give.
  unfoldable pub Promise : Compiled → ℕ → Configuration → List ℕ → List ℕ → Prospect → Type 0
  Promise m d p cs ds (ticks n) = Plays m.step (AcceptedBy m) d p cs ds × (last_of d ds ≡ d + n)
  Promise m d p cs ds extensible = Plays m.step (λ _ q. T (m.live (saturated one q))) d p cs ds
  Promise m d p cs ds dead = Unit {0}

  promise_now : (m : Compiled) (c : ℕ) (cs ds : List ℕ) (d : ℕ) (p q : Configuration) → m.step c p ≡ some q → (a : Prospect) → Promise m d q cs ds a → Promise m d p (c ∷ cs) (d ∷ ds) a
  unfolding Promise
  promise_now m c cs ds d p q e (ticks n) h = (plays_now m.step (AcceptedBy m) c cs ds d p (rw e h.0), h.1)
  promise_now m c cs ds d p q e extensible h = plays_now m.step (λ _ z. T (m.live (saturated one z))) c cs ds d p (rw e h)
  promise_now m c cs ds d p q e dead h = tt

  promise_later : (m : Compiled) (c : ℕ) (cs ds : List ℕ) (d : ℕ) (p : Configuration) (a : Prospect) → Promise m (suc d) (elapse 1 p) (c ∷ cs) ds a → Promise m d p (c ∷ cs) ds (later a)
  unfolding Promise
  promise_later m c cs ds d p (ticks n) h = (plays_later m.step (AcceptedBy m) c cs ds d p h.0, last_later ds h.0 h.1)
    where
      last_later : (es : List ℕ) → Plays m.step (AcceptedBy m) (suc d) (elapse 1 p) (c ∷ cs) es → last_of (suc d) es ≡ suc d + n → last_of d es ≡ d + suc n
      last_later [] k e = absurd k
      last_later (x ∷ es) k e = omega arith
  promise_later m c cs ds d p extensible h = plays_later m.step (λ _ z. T (m.live (saturated one z))) c cs ds d p h
  promise_later m c cs ds d p dead h = tt

  module _ (m : Compiled) (sat : Saturates one m.step) (c : ℕ) (cs : List ℕ) (f : Configuration → Prospect) (g : Configuration → ℕ → List ℕ) where
    now_sound : ((d : ℕ) (p : Configuration) → Promise m d p cs (g (saturated one p) d) (f (saturated one p))) → (d : ℕ) (p : Configuration)
        → Promise m d p (c ∷ cs) (d ∷ dates_after (m.step c (saturated one p)) (λ (q : Configuration). g q d)) (after_step (m.step c (saturated one p)) f)
    unfolding Promise
    now_sound ih d p = subst⁻¹ (λ (o : Option Configuration). Promise m d p (c ∷ cs) (d ∷ dates_after o (λ (q : Configuration). g q d)) (after_step o f)) (sat c p) (go (m.step c p) refl)
      where
        go : (o : Option Configuration) → m.step c p ≡ o → Promise m d p (c ∷ cs) (d ∷ dates_after (saturated_option one o) (λ (q : Configuration). g q d)) (after_step (saturated_option one o) f)
        go none e = tt
        go (some q) e = promise_now m c cs (g (saturated one q) d) d p q e (f (saturated one q)) (ih d q)

    reads_sound : ((d : ℕ) (p : Configuration) → Promise m d p cs (g (saturated one p) d) (f (saturated one p)))
        → (k d : ℕ) (p : Configuration) → Promise m d p (c ∷ cs) (reads m.step c f g k (saturated one p) d) (waits m.step c f k (saturated one p))
    unfolding reads waits
    reads_sound ih zero d p = now_sound ih d p
    reads_sound ih (suc k) d p =
        let now : Prospect = after_step (m.step c (saturated one p)) f in
        let wait : Prospect = waits m.step c f k (advance 1 (saturated one p)) in
        elim (keeps now (later wait)) as (λ (b : Bool). Promise m d p (c ∷ cs)
        (elim b [ true ↦ d ∷ dates_after (m.step c (saturated one p)) (λ (q : Configuration). g q d) | false ↦ reads m.step c f g k (advance 1 (saturated one p)) (suc d) ]) (cond b now (later wait))) [
          | true ↦ now_sound ih d p
          | false ↦ promise_later m c cs (reads m.step c f g k (advance 1 (saturated one p)) (suc d)) d p wait
              (subst⁻¹ (λ (r : Configuration). Promise m (suc d) (elapse 1 p) (c ∷ cs) (reads m.step c f g k r (suc d)) (waits m.step c f k r)) (advance_saturated one p) (reads_sound ih k (suc d) (elapse 1 p)))
        ]

  -- The dates read off keep the promise.
  pub sound : (m : Compiled) → Saturates one m.step → (cs : List ℕ) (d : ℕ) (p : Configuration) → Promise m d p cs (dates m cs (saturated one p) d) (prospect m cs (saturated one p))
  unfolding Promise ended plan
  sound m sat [] d p = subst⁻¹ (λ (a : Prospect). Promise m d p [] [] a) (prospect_nil m (saturated one p)) (go (m.accepts p.location) (m.live (saturated one p)) refl refl)
    where
      go : (b a : Bool) → m.accepts p.location ≡ b → m.live (saturated one p) ≡ a → Promise m d p [] [] (cond b (ticks 0) (cond a extensible dead))
      go true a e h = (rw e tt, omega arith)
      go false true e h = rw h tt
      go false false e h = tt
  sound m sat (c ∷ cs) d p =
      subst⁻¹ (λ (a : Prospect). Promise m d p (c ∷ cs) (reads m.step c (prospect m cs) (dates m cs) (headroom (saturated one p)) (saturated one p) d) a) (prospect_cons m c cs (saturated one p))
      (reads_sound m sat c cs (prospect m cs) (dates m cs) (λ e q. sound m sat cs e q) (headroom (saturated one p)) d p)

  module _ (m : Compiled) (sat : Saturates one m.step) (c : ℕ) (cs : List ℕ) (f : Configuration → Prospect) (g : Configuration → ℕ → List ℕ)
      (least' : (es : List ℕ) (e : ℕ) (q : Configuration) → Plays m.step (AcceptedBy m) e q cs es → Within (last_of e es) (f (saturated one q)) e)
      (lex' : (es : List ℕ) (e : ℕ) (q : Configuration) → Plays m.step (AcceptedBy m) e q cs es → Tight (last_of e es) (f (saturated one q)) e → NotAfter (g (saturated one q) e) es) where
    -- A run that starts now.
    here : (es : List ℕ) (d e : ℕ) (p : Configuration) → d ≡ e → Found (m.step c (elapse (e - d) p)) (λ (q : Configuration). Plays m.step (AcceptedBy m) e q cs es) → Found (m.step c p) (λ (q : Configuration). Plays m.step (AcceptedBy m) d q cs es)
    here es d e p q h =
        subst (λ (r : Configuration). Found (m.step c r) (λ (z : Configuration). Plays m.step (AcceptedBy m) d z cs es)) (elapse_none p d)
        (subst⁻¹ (λ (k : ℕ). Found (m.step c (elapse (k - d) p)) (λ (z : Configuration). Plays m.step (AcceptedBy m) k z cs es)) q h)

    rest_lex : (es : List ℕ) (d : ℕ) (p : Configuration) → Found (m.step c p) (λ (q : Configuration). Plays m.step (AcceptedBy m) d q cs es)
        → Tight (last_of d es) (after_step (m.step c (saturated one p)) f) d → NotAfter (dates_after (m.step c (saturated one p)) (λ (q : Configuration). g q d)) es
    rest_lex es d p h = subst⁻¹ (λ (o : Option Configuration). Tight (last_of d es) (after_step o f) d → NotAfter (dates_after o (λ (q : Configuration). g q d)) es) (sat c p) (go (m.step c p) h)
      where
        go : (o : Option Configuration) → Found o (λ (q : Configuration). Plays m.step (AcceptedBy m) d q cs es)
            → Tight (last_of d es) (after_step (saturated_option one o) f) d → NotAfter (dates_after (saturated_option one o) (λ (q : Configuration). g q d)) es
        go none k t = absurd k
        go (some q) k t = lex' es d q k t

    now_lex : (es : List ℕ) (d e : ℕ) (p : Configuration) → d ≤ e → Found (m.step c (elapse (e - d) p)) (λ (q : Configuration). Plays m.step (AcceptedBy m) e q cs es)
        → Tight (last_of e es) (after_step (m.step c (saturated one p)) f) d → NotAfter (d ∷ dates_after (m.step c (saturated one p)) (λ (q : Configuration). g q d)) (e ∷ es)
    now_lex es d e p l h t =
        elim (eq-or-lt_of_le l) [
          | inl q ↦ inr (q, rest_lex es d p (here es d e p q h) (subst⁻¹ (λ (k : ℕ). Tight (last_of k es) (after_step (m.step c (saturated one p)) f) d) q t))
          | inr k ↦ inl k
        ]

    reads_lex : (es : List ℕ) (k d e : ℕ) (p : Configuration) → d ≤ e → Found (m.step c (elapse (e - d) p)) (λ (q : Configuration). Plays m.step (AcceptedBy m) e q cs es)
        → Tight (last_of e es) (waits m.step c f k (saturated one p)) d → NotAfter (reads m.step c f g k (saturated one p) d) (e ∷ es)
    unfolding reads waits
    reads_lex es zero d e p l h t = now_lex es d e p l h t
    reads_lex es (suc k) d e p l h t =
        let now : Prospect = after_step (m.step c (saturated one p)) f in
        let wait : Prospect = waits m.step c f k (advance 1 (saturated one p)) in
        (elim (keeps now (later wait)) as (λ (b : Bool). keeps now (later wait) ≡ b → Tight (last_of e es) (cond b now (later wait)) d → NotAfter
        (elim b [ true ↦ d ∷ dates_after (m.step c (saturated one p)) (λ (q : Configuration). g q d) | false ↦ reads m.step c f g k (advance 1 (saturated one p)) (suc d) ]) (e ∷ es)) [
          | true ↦ λ x y. now_lex es d e p l h y
          | false ↦ λ x y. elim (eq-or-lt_of_le l) [
            | inl q ↦ absurd (worse (last_of d es) now (later wait) d x
                (now_low m.step sat (Within (last_of d es)) c f p d (found_map (m.step c p) (λ z. least' es d z) (here es d e p q h)))
                (subst⁻¹ (λ (j : ℕ). Tight (last_of j es) (later wait) d) q y))
            | inr j ↦ subst⁻¹ (λ (r : Configuration). NotAfter (reads m.step c f g k r (suc d)) (e ∷ es)) (advance_saturated one p)
                (reads_lex es k (suc d) e (elapse 1 p) j
                (subst⁻¹ (λ (r : Configuration). Found (m.step c r) (λ (q : Configuration). Plays m.step (AcceptedBy m) e q cs es)) (elapse_more p d e j) h)
                (subst (λ (r : Configuration). Tight (last_of e es) (waits m.step c f k r) (suc d)) (advance_saturated one p) (tight_later (last_of e es) wait d y)))
          ]
        ]) refl t

  -- Of the timings that end when the prospect says, the dates read off come first.
  pub lex : (m : Compiled) → Saturates one m.step → (cs ds : List ℕ) (d : ℕ) (p : Configuration) → Plays m.step (AcceptedBy m) d p cs ds
      → Tight (last_of d ds) (prospect m cs (saturated one p)) d → NotAfter (dates m cs (saturated one p) d) ds
  unfolding plan
  lex m sat [] ds d p h t = tt
  lex m sat (c ∷ cs) [] d p h t = absurd h
  lex m sat (c ∷ cs) (e ∷ ds) d p h t =
      reads_lex m sat c cs (prospect m cs) (dates m cs) (λ es x q. least m sat cs es x q) (λ es x q. lex m sat cs es x q) ds (headroom (saturated one p)) d e p h.0 h.1
      (subst (λ (a : Prospect). Tight (last_of e ds) a d) (prospect_cons m c cs (saturated one p)) t)
