-- What a caller of the joining gets: a sheet that loads and has the runs of both.
-- Assumes nothing.
use mathlib.Core.Path.{◌≡◌, sym, ap, ◌∙◌}
use mathlib.Core.Logic.{◌⊎◌, inl, inr}
use Prim.Native.Nat.{ℕ, ◌-◌, ◌≤◌}
use native.Mathlib.Omega.{arith}
use lib.ListN.{length, take, drop, replicate, length-append, length-replicate}
use lib.Seq.{take_at, drop_at}
use Rattle.enforcement.specs.Limits.{max_size}
use Rattle.enforcement.specs.Automaton.{Bytes}
use Rattle.enforcement.proofs.Loading.{size_fits}
use Rattle.product.specs.Product.{joined}
use Rattle.product.specs.Joining.{Refusal, written, refused, answer, OutputRight, Delivered}
use Rattle.product.proofs.Reading.{reads_both}
use Rattle.product.proofs.Loadable.{loadable}
use Rattle.product.proofs.Runs.{runs_both}
use Rattle.product.proofs.Refusals.{check_right}
use Rattle.product.proofs.Answers.{written_joinable}

module _ (m n : ℕ) (s u : Bytes) (e : answer m s u ≡ written n) where
  -- Where a length is answered, it is that of the joined sheet.
  pub length_answered : n ≡ length (joined s u)
  length_answered = go (check_right m s u).one_of
    where
      go : (answer m s u ≡ written (length (joined s u))) ⊎ ((r : Refusal) × (answer m s u ≡ refused r)) → n ≡ length (joined s u)
      go (inl a) = cc (e, a)
      go (inr a) = let z : ◌≡◌ {A = ℕ} 0 1 = cc (e, a.1) in absurd (omega arith)

  -- It is no longer than the output.
  pub sheet_short : n ≤ max_size
  sheet_short = omega (arith, length_answered, (size_fits (joined s u) (loadable (written_joinable m s u n e)).formed).1)

-- By any function that promises this of its output.
pub delivered : {s u before after : Bytes} (n : ℕ) → answer (length before) s u ≡ written n → OutputRight s u before after → Delivered s u n after
delivered {s} {u} {before} {after} n e o =
    let l = length_answered (length before) n s u e in
    let j = written_joinable (length before) s u n e in
    let w = o.wrote n e in
    record {
      joinable = j;
      length_is = l;
      sized = ap length w ∙ length-append (joined s u) (replicate {A = ℕ} (max_size - length (joined s u)) 0) ∙ omega (arith, length-replicate {A = ℕ} (max_size - length (joined s u)) 0, sheet_short (length before) n s u e, l);
      sheet = ap (take n) w ∙ take_at (joined s u) _ n (sym l);
      zeros = ap (drop n) w ∙ drop_at (joined s u) _ n (sym l) ∙ ap (λ (k : ℕ). replicate (max_size - k) 0) (sym l);
      reads = reads_both s u;
      loads = loadable j;
      runs = runs_both j;
    }
