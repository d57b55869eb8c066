-- The loop that marks a block of calls follows the model.
-- Assumes nothing.
use mathlib.Core.Path.{◌≡◌, refl, sym, ap, ◌∙◌}
use mathlib.Core.Bool.{Bool, true, false}
use mathlib.Core.List.{List, ◌∷◌, ◌++◌, append_assoc, append-nil}
use Prim.Native.Nat.{ℕ, suc, ◌+◌, ◌-◌, ◌*◌, ◌/◌, ◌%◌, ◌≤◌, ◌<◌}
use native.Mathlib.Omega.{arith}
use native.Mathlib.Nat.{div-add-mod', mod-lt}
use native.Mathlib.Numerals.{add-one}
use lib.Dec.{lit<}
use lib.ListN.{length, length-append}
use lib.Seq.{length-take-le}
use Rattle.enforcement.specs.Automaton.{Bytes}
use Rattle.enforcement.specs.History.{Call}
use Rattle.enforcement.specs.Model.{Compiled, compile}
use Rattle.enforcement.specs.Monitor.{answer, replay}
use Rattle.enforcement.specs.Monitor as model
use Rattle.retimer.specs.Bytes.{Wrote}
use Rattle.report.specs.Texts.{ascii, numeral}
use Rattle.report.specs.Lines.{outcome_text, answer_text, call_line, lamp_text, tail_line}
use Rattle.report.proofs.Numerals.{numeral_few}
use Rattle.report.proofs.LineLaws.{answer_few, tail_few}
use Rattle.retimer.proofs.Writing.{next, as_part}
use Rattle.retimer.specs.declared.limits.State.{State}
use Rattle.retimer.specs.declared.limits.Monitor.{Monitor}
use Rattle.retimer.specs.declared.state.Answer.{Answer}
use Rattle.retimer.specs.declared.state.Answer.TheVariants.{Scheduled, Held, Dropped, Played, Nothing, Lit, Dark, Refused}
use Rattle.retimer.specs.declared.state.Moved.{Moved}
use Rattle.retimer.specs.View.{bytes_of, view, view_of, StateValid, Sound}
use Rattle.retimer.specs.Calls.{outcome_of, moved_of, with_state, MoveRight}
use Rattle.retimer.specs.Replay.{call_at, calls_from, calls_of}
use Rattle.retimer.proofs.CallLaws.{view_lit, valid_box}
use Rattle.marking.specs.Marks.{line_of, lines_of, MarkRight}

-- ---- One line

-- The count of "held" is the held list's length.
held_text : (a : Answer) (h : ℕ) → ((n : ℕ) → a ≡ Held n → n ≡ h) → answer_text a ≡ outcome_text h (outcome_of a)
held_text (Scheduled n d) h e = refl
held_text (Held n) h e = ap (λ (k : ℕ). answer_text (Held k)) (e n refl)
held_text Dropped h e = refl
held_text (Played e) h f = refl
held_text Nothing h e = refl
held_text Lit h e = refl
held_text Dark h e = refl
held_text (Refused r) h e = refl

lamp_few : (x : Bool) → length (lamp_text x) ≡ 8
lamp_few true = refl
lamp_few false = refl

pub line_few : (n : ℕ) (a : Answer) (x : Bool) → length (call_line n (answer_text a) x) ≤ 120
line_few n a x =
    omega (
      arith,
      length-append (numeral n ++ ascii " " ++ answer_text a) (lamp_text x),
      length-append (numeral n ++ ascii " ") (answer_text a),
      length-append (numeral n) (ascii " "),
      numeral_few n,
      answer_few a,
      lamp_few x,
    )

-- The line of a call and the lamp after it is the model's.
module _ (m : Compiled) (b : model.Monitor) (k : Call) (r : Moved) (n : ℕ) (is : moved_of r ≡ answer m b k) (held_count : (h : ℕ) → r.answer ≡ Held h → h ≡ length (view r.state).pending) where
  text_is : answer_text r.answer ≡ outcome_text (length (answer m b k).monitor.pending) (answer m b k).outcome
  text_is = held_text r.answer (length (view r.state).pending) held_count ∙ ap (λ (w : model.Answered). outcome_text (length w.monitor.pending) w.outcome) is

  pub line_is : call_line (n + 1) (answer_text r.answer) r.state.lit ≡ line_of (suc n) (answer m b k)
  line_is =
      ap (λ (j : ℕ). call_line j (answer_text r.answer) r.state.lit) (add-one n)
      ∙ ap (λ (t : List ℕ). call_line (suc n) t r.state.lit) text_is
      ∙ ap (call_line (suc n) (outcome_text (length (answer m b k).monitor.pending) (answer m b k).outcome)) (view_lit r.state (ap (λ (w : model.Answered). w.monitor) is))

-- ---- The loop

-- Calls made so far, their lines at the front of the buffer, and the lines that are still to come.
pub record Marking (start : Monitor) (s : Bytes) (n : ℕ) (before out : List ℕ) (q : State) (made end i : ℕ) : Type 0 where
  pub done : ℕ
  pub place : i ≡ 5 * done
  pub inside : done ≤ length s / 5
  pub made_is : made ≡ n + done
  pub text : List ℕ
  pub wrote : Wrote before 0 text out end
  pub few : end ≤ 120 * done
  pub lines : text ++ lines_of (compile (bytes_of start)) (view q) made (calls_from s (length s / 5 - done) i) ≡ lines_of (compile (bytes_of start)) (view_of start) n (calls_of s)
  pub monitor : (replay (compile (bytes_of start)) (view q) (calls_from s (length s / 5 - done) i)).monitor ≡ (replay (compile (bytes_of start)) (view_of start) (calls_of s)).monitor
  pub valid : StateValid (bytes_of start) start.live q
  pub sized : length out ≡ length before

-- The whole calls of a list of bytes, and the bytes left over.
module _ (s : Bytes) where
  pub parts : length s / 5 * 5 + length s % 5 ≡ length s
  parts = div-add-mod' (length s) 5

  pub rest_few : length s % 5 < 5
  rest_few = mod-lt (length s) (lit< tt)

-- One call.
module _ {start : Monitor} {s : Bytes} {n : ℕ} {before out : List ℕ} {q : State} {made end i : ℕ} (g : Marking start s n before out q made end i) (here : i + 5 ≤ length s) where
  one_more : g.done < length s / 5
  one_more = omega (arith, g.place, parts s, rest_few s)

  left : length s / 5 - g.done ≡ suc (length s / 5 - (g.done + 1))
  left = omega (arith, one_more)

  m : Compiled
  m = compile (bytes_of start)

  k : Call
  k = call_at s i

  unrolled : calls_from s (length s / 5 - g.done) i ≡ k ∷ calls_from s (length s / 5 - (g.done + 1)) (i + 5)
  unfolding calls_from k
  unrolled = ap (λ (j : ℕ). calls_from s j i) left

  module _ {r : Moved} (right : MoveRight (bytes_of start) start.live q (call_at s i) r) where
    is : moved_of r ≡ answer m (view q) k
    unfolding m k
    is = right.is

    view_is : view r.state ≡ (answer m (view q) k).monitor
    view_is = ap (λ (w : model.Answered). w.monitor) is

    line : List ℕ
    line = call_line (made + 1) (answer_text r.answer) r.state.lit

    lines_split : lines_of m (view q) made (calls_from s (length s / 5 - g.done) i) ≡ line ++ lines_of m (view r.state) (made + 1) (calls_from s (length s / 5 - (g.done + 1)) (i + 5))
    unfolding lines_of line
    lines_split =
        ap (lines_of m (view q) made) unrolled
        ∙ ap (λ (t : List ℕ). t ++ lines_of m (answer m (view q) k).monitor (suc made) (calls_from s (length s / 5 - (g.done + 1)) (i + 5))) (sym (line_is m (view q) k r made is right.held_count))
        ∙ ap (λ (v : model.Monitor). line ++ lines_of m v (suc made) (calls_from s (length s / 5 - (g.done + 1)) (i + 5))) (sym view_is)
        ∙ ap (λ (j : ℕ). line ++ lines_of m (view r.state) j (calls_from s (length s / 5 - (g.done + 1)) (i + 5))) (sym (add-one made))

    monitor_split : (replay m (view q) (calls_from s (length s / 5 - g.done) i)).monitor ≡ (replay m (view r.state) (calls_from s (length s / 5 - (g.done + 1)) (i + 5))).monitor
    unfolding replay
    monitor_split =
        ap (λ (ks : List Call). (replay m (view q) ks).monitor) unrolled
        ∙ ap (λ (v : model.Monitor). (replay m v (calls_from s (length s / 5 - (g.done + 1)) (i + 5))).monitor) (sym view_is)

    pub goes_on : {out' : List ℕ} {end' : ℕ} → 120 * (length s / 5) + 120 ≤ length before
        → Wrote out end (call_line (made + 1) (answer_text r.answer) r.state.lit) out' end' → length out' ≡ length out
        → Marking start s n before out' r.state (made + 1) end' (i + 5)
    unfolding m line
    goes_on {out'} {end'} room wrote kept = record {
      done = g.done + 1;
      place = omega (arith, g.place);
      inside = omega (arith, one_more);
      made_is = omega (arith, g.made_is);
      text = g.text ++ line;
      wrote = next (omega (arith, g.few, g.inside)) g.wrote wrote;
      few = omega (arith, wrote.ends, g.few, line_few (made + 1) r.answer r.state.lit);
      lines = append_assoc g.text line _ ∙ ap (λ (t : List ℕ). g.text ++ t) (sym lines_split) ∙ g.lines;
      monitor = sym monitor_split ∙ g.monitor;
      valid = right.valid;
      sized = kept ∙ g.sized;
    }

-- The end: what is left over.
module _ {start : Monitor} {s : Bytes} {n : ℕ} {before out : List ℕ} {q : State} {made end i : ℕ} (g : Marking start s n before out q made end i) (over : length s < i + 5) where
  all_done : g.done ≡ length s / 5
  all_done = omega (arith, g.place, g.inside, parts s, rest_few s)

  none_left : length s / 5 - g.done ≡ 0
  none_left = omega (arith, all_done)

  text_all : g.text ≡ lines_of (compile (bytes_of start)) (view_of start) n (calls_of s)
  unfolding lines_of calls_from
  text_all = sym (append-nil g.text) ∙ ap (λ (j : ℕ). g.text ++ lines_of (compile (bytes_of start)) (view q) made (calls_from s j i)) (sym none_left) ∙ g.lines

  monitor_all : view q ≡ (replay (compile (bytes_of start)) (view_of start) (calls_of s)).monitor
  unfolding replay calls_from
  monitor_all = ap (λ (j : ℕ). (replay (compile (bytes_of start)) (view q) (calls_from s j i)).monitor) (sym none_left) ∙ g.monitor

  pub finishes : {out' : List ℕ} {size : ℕ} → Sound start → 120 * (length s / 5) + 120 ≤ length before → Wrote out end (tail_line (length s % 5)) out' size → length out' ≡ length out
      → MarkRight start s n before out' (record { monitor = with_state start q; calls = n + length s / 5; size = size })
  finishes {out'} {size} f room wrote kept =
      let fits : size ≤ length out' = omega (arith, wrote.ends, g.few, g.inside, g.sized, kept, tail_few (length s % 5)) in
      record {
        wrote = as_part (next (omega (arith, g.few, g.inside)) g.wrote wrote) (ap (λ (t : List ℕ). t ++ tail_line (length s % 5)) text_all);
        counts = (fits, sym (length-take-le size out' fits));
        calls_are = refl;
        monitor_is = monitor_all;
        valid = valid_box f g.valid;
        kept = refl;
      }
