-- The desk program's text, block by block, is the text of all calls.
-- Assumes nothing.
use mathlib.Core.Path.{◌≡◌, refl, ap, ap₂, sym, ◌∙◌}
use mathlib.Core.List.{List, [], ◌∷◌, ◌++◌, append_assoc, append-nil}
use Prim.Native.Nat.{ℕ, zero, suc, ◌+◌, ◌*◌, ◌/◌, ◌%◌, ◌≤◌}
use native.Mathlib.Omega.{arith}
use lib.ListN.{length, length-append, get_or-append}
use lib.Seq.{get_or-append-add}
use Rattle.enforcement.specs.Automaton.{Bytes, byte}
use Rattle.enforcement.specs.History.{Call}
use Rattle.enforcement.specs.Model.{Compiled}
use Rattle.enforcement.specs.Monitor.{answer, replay}
use Rattle.enforcement.specs.Monitor as model
use Rattle.report.specs.Lines.{tail_line}
use Rattle.retimer.specs.Replay.{call_at, calls_from, calls_of}
use Rattle.marking.specs.Marks.{line_of, lines_of, block_text, Joins}

-- ---- The calls

module _ (s t : Bytes) where
  byte_front : (i : ℕ) → i + 1 ≤ length s → byte (s ++ t) i ≡ byte s i
  byte_front i h = get_or-append s t 0 i (omega arith)

  byte_behind : (i j : ℕ) → j ≡ length s + i → byte (s ++ t) j ≡ byte t i
  byte_behind i j e = ap (byte (s ++ t)) e ∙ get_or-append-add s t i 0

  call_front : (i : ℕ) → i + 5 ≤ length s → call_at (s ++ t) i ≡ call_at s i
  call_front i h = rw (byte_front i (omega arith), byte_front (i + 1) (omega arith), byte_front (i + 1 + 1) (omega arith), byte_front (i + 1 + 2) (omega arith), byte_front (i + 1 + 2 + 1) (omega arith))

  call_behind : (i j : ℕ) → j ≡ length s + i → call_at (s ++ t) j ≡ call_at t i
  call_behind i j e = rw (byte_behind i j e, byte_behind (i + 1) (j + 1) (omega arith), byte_behind (i + 1 + 1) (j + 1 + 1) (omega arith), byte_behind (i + 1 + 2) (j + 1 + 2) (omega arith), byte_behind (i + 1 + 2 + 1) (j + 1 + 2 + 1) (omega arith))

  calls_front : (n i : ℕ) → i + 5 * n ≤ length s → calls_from (s ++ t) n i ≡ calls_from s n i
  unfolding calls_from
  calls_front zero i h = refl
  calls_front (suc n) i h = ap₂ (λ (k : Call) (ks : List Call). k ∷ ks) (call_front i (omega arith)) (calls_front n (i + 5) (omega arith))

  calls_behind : (n i j : ℕ) → j ≡ length s + i → calls_from (s ++ t) n j ≡ calls_from t n i
  unfolding calls_from
  calls_behind zero i j e = refl
  calls_behind (suc n) i j e = ap₂ (λ (k : Call) (ks : List Call). k ∷ ks) (call_behind i j e) (calls_behind n (i + 5) (j + 5) (omega arith))

calls_split : (s : Bytes) (n k i : ℕ) → calls_from s (n + k) i ≡ calls_from s n i ++ calls_from s k (i + 5 * n)
unfolding calls_from
calls_split s zero k i = let z : 0 + k ≡ k = omega arith in let y : i + 5 * 0 ≡ i = omega arith in rw (z, y)
calls_split s (suc n) k i = let z : suc n + k ≡ suc (n + k) = omega arith in let y : i + 5 * suc n ≡ i + 5 + 5 * n = omega arith in rw (z, y) (ap (λ (ks : List Call). call_at s i ∷ ks) (calls_split s n k (i + 5)))

calls_length : (s : Bytes) (n i : ℕ) → length (calls_from s n i) ≡ n
unfolding calls_from
calls_length s zero i = refl
calls_length s (suc n) i = ap suc (calls_length s n (i + 5))

-- ---- The lines

lines_split : (m : Compiled) (b : model.Monitor) (n : ℕ) (ks ls : List Call) → lines_of m b n (ks ++ ls) ≡ lines_of m b n ks ++ lines_of m (replay m b ks).monitor (n + length ks) ls
unfolding lines_of replay
lines_split m b n [] ls = let z : n + 0 ≡ n = omega arith in rw z
lines_split m b n (k ∷ ks) ls =
    let z : n + suc (length ks) ≡ suc n + length ks = omega arith in
    rw z
    (ap (λ (t : List ℕ). line_of (suc n) (answer m b k) ++ t) (lines_split m (answer m b k).monitor (suc n) ks ls)
    ∙ sym (append_assoc (line_of (suc n) (answer m b k)) (lines_of m (answer m b k).monitor (suc n) ks) (lines_of m (replay m (answer m b k).monitor ks).monitor (suc n + length ks) ls)))

-- ---- Blocks

module _ (m : Compiled) (b : model.Monitor) (n : ℕ) (s t : Bytes) (whole : length s % 5 ≡ 0) where
  count : length (s ++ t) / 5 ≡ length s / 5 + length t / 5
  count = omega (arith, length-append s t)

  rest : length (s ++ t) % 5 ≡ length t % 5
  rest = omega (arith, length-append s t)

  all_front : 5 * (length s / 5) ≡ length s
  all_front = omega arith

  calls_are : calls_of (s ++ t) ≡ calls_of s ++ calls_of t
  calls_are =
      ap (λ (k : ℕ). calls_from (s ++ t) k 0) count ∙ calls_split (s ++ t) (length s / 5) (length t / 5) 0
      ∙ ap₂ (λ (x y : List Call). x ++ y) (calls_front s t (length s / 5) 0 (omega (arith, all_front))) (calls_behind s t (length t / 5) 0 (0 + 5 * (length s / 5)) (omega (arith, all_front)))

  lines_are : lines_of m b n (calls_of (s ++ t)) ≡ lines_of m b n (calls_of s) ++ lines_of m (replay m b (calls_of s)).monitor (n + length s / 5) (calls_of t)
  lines_are =
      ap (lines_of m b n) calls_are ∙ lines_split m b n (calls_of s) (calls_of t)
      ∙ ap (λ (k : ℕ). lines_of m b n (calls_of s) ++ lines_of m (replay m b (calls_of s)).monitor (n + k) (calls_of t)) (calls_length s (length s / 5) 0)

  none_left : block_text m b n s ≡ lines_of m b n (calls_of s)
  none_left = ap (λ (k : ℕ). lines_of m b n (calls_of s) ++ tail_line k) whole ∙ append-nil (lines_of m b n (calls_of s))

  joined : block_text m b n (s ++ t) ≡ block_text m b n s ++ block_text m (replay m b (calls_of s)).monitor (n + length s / 5) t
  joined =
      ap₂ (λ (x : List ℕ) (k : ℕ). x ++ tail_line k) lines_are rest
      ∙ append_assoc (lines_of m b n (calls_of s)) (lines_of m (replay m b (calls_of s)).monitor (n + length s / 5) (calls_of t)) (tail_line (length t % 5))
      ∙ ap (λ (x : List ℕ). x ++ block_text m (replay m b (calls_of s)).monitor (n + length s / 5) t) (sym none_left)

pub blocks_join : (m : Compiled) (b : model.Monitor) (n : ℕ) (s t : Bytes) → Joins m b n s t
blocks_join m b n s t whole = joined m b n s t whole
