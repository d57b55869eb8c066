-- The equations by which a table of prospects is filled and its dates are read off, a configuration at a time; and how large a prospect can be.
use mathlib.Core.Path.{◌≡◌, refl, ap, sym, ◌∙◌, subst⁻¹}
use mathlib.Core.Bool.{Bool, true, false, cond}
use mathlib.Core.List.{List, [], ◌∷◌}
use mathlib.Core.Option.{Option, none, some}
use Prim.Native.Nat.{ℕ, zero, suc, ◌+◌, ◌*◌, ◌-◌, ◌≤◌, ◌<◌, min}
use native.Mathlib.Omega.{arith}
use lib.Dec.{leb}
use lib.ListN.{length}
use borrow.Author.Tests.{leb-true, leb-false}
use Rattle.enforcement.specs.TimedWord.{Configuration}
use Rattle.enforcement.specs.Model.{Prospect, ticks, extensible, dead, later, keeps, better, advance, headroom, after_step, dates_after, top, waits, nth, tower, reads, ended, plan, Compiled, prospect, dates}
use Rattle.enforcement.proofs.Saturation.{Steps}
use Rattle.enforcement.proofs.Memo.{tabled_is}

-- ---- Without tables

-- The better of two numbers of ticks.
pub by_cond : (n m : ℕ) (P : Prospect → Type 0) → (n ≤ m → P (ticks n)) → (m < n → P (ticks m)) → P (better (ticks n) (ticks m))
by_cond n m P f g = go (leb n m) refl
  where
    go : (b : Bool) → leb n m ≡ b → P (cond b (ticks n) (ticks m))
    go true e = f (leb-true n m e)
    go false e = g (leb-false n m e)

pub prospect_nil : (m : Compiled) (p : Configuration) → prospect m [] p ≡ ended m.accepts m.live p
unfolding plan
prospect_nil m p = tabled_is m.size (ended m.accepts m.live) p

-- The tables of a tower say what waiting says.
tower_top : (n : ℕ) (st : Steps) (c : ℕ) (f : Configuration → Prospect) (k : ℕ) (p : Configuration) → nth (tower n st c f k) 0 p ≡ waits st c f k p
unfolding tower waits
tower_top n st c f zero p = tabled_is n (λ (q : Configuration). after_step (st c q) f) p
tower_top n st c f (suc k) p =
    tabled_is n (λ (q : Configuration). better (after_step (st c q) f) (later (nth (tower n st c f k) 0 (advance 1 q)))) p
    ∙ ap (λ (a : Prospect). better (after_step (st c p) f) (later a)) (tower_top n st c f k (advance 1 p))

tower_at : (n : ℕ) (st : Steps) (c : ℕ) (f : Configuration → Prospect) (k i j : ℕ) → i + j ≡ k → (p : Configuration) → nth (tower n st c f k) i p ≡ waits st c f j p
unfolding tower
tower_at n st c f k zero j e p = let x : k ≡ j = omega arith in rw (← x) (tower_top n st c f k p)
tower_at n st c f zero (suc i) j e p = absurd (omega arith)
tower_at n st c f (suc k) (suc i) j e p = tower_at n st c f k i j (omega arith) p

pub prospect_cons : (m : Compiled) (c : ℕ) (cs : List ℕ) (p : Configuration) → prospect m (c ∷ cs) p ≡ waits m.step c (prospect m cs) (headroom p) p
unfolding plan
prospect_cons m c cs p = tower_at m.size m.step c (plan m cs).prospect top (top - headroom p) (headroom p) (omega arith) p

pub dates_nil : (m : Compiled) (p : Configuration) (d : ℕ) → dates m [] p d ≡ []
unfolding plan
dates_nil m p d = refl

pub dates_cons : (m : Compiled) (c : ℕ) (cs : List ℕ) (p : Configuration) (d : ℕ) → dates m (c ∷ cs) p d ≡ reads m.step c (prospect m cs) (dates m cs) (headroom p) p d
unfolding plan
dates_cons m c cs p d = refl

-- ---- One configuration at a time

-- Both readings are saturated: the action is played now.
pub prospect_top : (m : Compiled) (c : ℕ) (cs : List ℕ) (p : Configuration) → top ≤ p.x → top ≤ p.y → prospect m (c ∷ cs) p ≡ after_step (m.step c p) (prospect m cs)
unfolding waits
prospect_top m c cs p h k = let z : headroom p ≡ 0 = omega arith in prospect_cons m c cs p ∙ ap (λ (n : ℕ). waits m.step c (prospect m cs) n p) z

headroom_next : (p : Configuration) → p.x ≤ top → p.y ≤ top → min p.x p.y < top → headroom p ≡ suc (headroom (advance 1 p))
headroom_next p h k l = omega arith

-- Else it is played now, or as the table says a tick later.
pub prospect_next : (m : Compiled) (c : ℕ) (cs : List ℕ) (p : Configuration) → p.x ≤ top → p.y ≤ top → min p.x p.y < top
    → prospect m (c ∷ cs) p ≡ better (after_step (m.step c p) (prospect m cs)) (later (prospect m (c ∷ cs) (advance 1 p)))
unfolding waits
prospect_next m c cs p h k l =
    prospect_cons m c cs p ∙ ap (λ (n : ℕ). waits m.step c (prospect m cs) n p) (headroom_next p h k l)
    ∙ ap (λ (a : Prospect). better (after_step (m.step c p) (prospect m cs)) (later a)) (sym (prospect_cons m c cs (advance 1 p)))

-- The dates read off: now if that keeps the prospect, else as a tick later.
pub dates_now : (m : Compiled) (c : ℕ) (cs : List ℕ) (p : Configuration) (d : ℕ) → p.x ≤ top → p.y ≤ top → min p.x p.y < top
    → keeps (after_step (m.step c p) (prospect m cs)) (later (prospect m (c ∷ cs) (advance 1 p))) ≡ true → dates m (c ∷ cs) p d ≡ d ∷ dates_after (m.step c p) (λ (q : Configuration). dates m cs q d)
unfolding reads
dates_now m c cs p d h k l e =
    dates_cons m c cs p d ∙ ap (λ (n : ℕ). reads m.step c (prospect m cs) (dates m cs) n p d) (headroom_next p h k l)
    ∙ ap (λ (b : Bool). elim b [ true ↦ d ∷ dates_after (m.step c p) (λ (q : Configuration). dates m cs q d) | false ↦ reads m.step c (prospect m cs) (dates m cs) (headroom (advance 1 p)) (advance 1 p) (suc d) ])
    (ap (λ (a : Prospect). keeps (after_step (m.step c p) (prospect m cs)) (later a)) (sym (prospect_cons m c cs (advance 1 p))) ∙ e)

pub dates_later : (m : Compiled) (c : ℕ) (cs : List ℕ) (p : Configuration) (d : ℕ) → p.x ≤ top → p.y ≤ top → min p.x p.y < top
    → keeps (after_step (m.step c p) (prospect m cs)) (later (prospect m (c ∷ cs) (advance 1 p))) ≡ false → dates m (c ∷ cs) p d ≡ dates m (c ∷ cs) (advance 1 p) (suc d)
unfolding reads
dates_later m c cs p d h k l e =
    dates_cons m c cs p d ∙ ap (λ (n : ℕ). reads m.step c (prospect m cs) (dates m cs) n p d) (headroom_next p h k l)
    ∙ ap (λ (b : Bool). elim b [ true ↦ d ∷ dates_after (m.step c p) (λ (q : Configuration). dates m cs q d) | false ↦ reads m.step c (prospect m cs) (dates m cs) (headroom (advance 1 p)) (advance 1 p) (suc d) ])
    (ap (λ (a : Prospect). keeps (after_step (m.step c p) (prospect m cs)) (later a)) (sym (prospect_cons m c cs (advance 1 p))) ∙ e)
    ∙ sym (dates_cons m c cs (advance 1 p) (suc d))

pub dates_top : (m : Compiled) (c : ℕ) (cs : List ℕ) (p : Configuration) (d : ℕ) → top ≤ p.x → top ≤ p.y → dates m (c ∷ cs) p d ≡ d ∷ dates_after (m.step c p) (λ (q : Configuration). dates m cs q d)
unfolding reads
dates_top m c cs p d h k = let z : headroom p ≡ 0 = omega arith in dates_cons m c cs p d ∙ ap (λ (n : ℕ). reads m.step c (prospect m cs) (dates m cs) n p d) z

-- ---- How large a prospect is

-- A prospect is at most z ticks.
abbrev pub AtMost : ℕ → Prospect → Type 0
AtMost z (ticks n) = n ≤ z
AtMost z extensible = Unit {0}
AtMost z dead = Unit {0}

better_most : (z : ℕ) (a b : Prospect) → AtMost z a → AtMost z b → AtMost z (better a b)
better_most z (ticks n) (ticks k) h l = by_cond n k (AtMost z) (λ _. h) (λ _. l)
better_most z (ticks n) extensible h l = h
better_most z (ticks n) dead h l = h
better_most z extensible (ticks k) h l = l
better_most z extensible extensible h l = h
better_most z extensible dead h l = h
better_most z dead (ticks k) h l = l
better_most z dead extensible h l = l
better_most z dead dead h l = h

later_most : (z : ℕ) (a : Prospect) → AtMost z a → AtMost (suc z) (later a)
later_most z (ticks n) h = omega arith
later_most z extensible h = tt
later_most z dead h = tt

more_most : (z y : ℕ) (a : Prospect) → z ≤ y → AtMost z a → AtMost y a
more_most z y (ticks n) h k = omega arith
more_most z y extensible h k = tt
more_most z y dead h k = tt

step_most : (z : ℕ) (o : Option Configuration) (f : Configuration → Prospect) → ((q : Configuration) → AtMost z (f q)) → AtMost z (after_step o f)
step_most z none f h = tt
step_most z (some q) f h = h q

waits_most : (st : Steps) (c : ℕ) (f : Configuration → Prospect) (z : ℕ) → ((q : Configuration) → AtMost z (f q)) → (k : ℕ) (p : Configuration) → AtMost (k + z) (waits st c f k p)
unfolding waits
waits_most st c f z h zero p = more_most z (0 + z) (after_step (st c p) f) (omega arith) (step_most z (st c p) f h)
waits_most st c f z h (suc k) p =
    better_most (suc k + z) (after_step (st c p) f) (later (waits st c f k (advance 1 p))) (more_most z (suc k + z) (after_step (st c p) f) (omega arith) (step_most z (st c p) f h))
    (more_most (suc (k + z)) (suc k + z) (later (waits st c f k (advance 1 p))) (omega arith) (later_most (k + z) (waits st c f k (advance 1 p)) (waits_most st c f z h k (advance 1 p))))

ended_most : (a b : Bool) → AtMost 0 (cond a (ticks 0) (cond b extensible dead))
ended_most true b = omega arith
ended_most false true = tt
ended_most false false = tt

pub prospect_most : (m : Compiled) (cs : List ℕ) (p : Configuration) → AtMost (top * length cs) (prospect m cs p)
unfolding ended
prospect_most m [] p = subst⁻¹ (AtMost 0) (prospect_nil m p) (ended_most (m.accepts p.location) (m.live p))
prospect_most m (c ∷ cs) p =
    subst⁻¹ (AtMost (top * suc (length cs))) (prospect_cons m c cs p)
    (more_most (headroom p + top * length cs) (top * suc (length cs)) (waits m.step c (prospect m cs) (headroom p) p) (omega arith)
    (waits_most m.step c (prospect m cs) (top * length cs) (prospect_most m cs) (headroom p) p))
