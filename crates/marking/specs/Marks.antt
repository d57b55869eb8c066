-- What marking a list of calls writes, from the model of the box.
use Rattle.std.specs.Prelude.{◌≡◌, Bool, false, cond, ◌||◌, ◌↔◌, List, [], ◌∷◌, ◌++◌, ℕ, suc, ◌+◌, ◌/◌, ◌%◌, ltb, length, take, drop}
use Rattle.enforcement.specs.Limits.{max_size}
use Rattle.enforcement.specs.Automaton.{Bytes, Automaton, automaton, word}
use Rattle.enforcement.specs.Loading.{check}
use Rattle.enforcement.specs.Loading as loading
use Rattle.enforcement.specs.History.{History, Call, Outcome, Answers, Dark}
use Rattle.enforcement.specs.Model.{Compiled, compile}
use Rattle.enforcement.specs.Monitor.{fresh_monitor, answer, replay}
use Rattle.enforcement.specs.Monitor as model
use Rattle.std.specs.Counts.{IsPrefixLen}
use Rattle.retimer.specs.Bytes.{Wrote}
use Rattle.report.specs.Lines.{sheet_line, refused_line, outcome_text, call_line, tail_line}
use Rattle.retimer.specs.declared.limits.Monitor.{Monitor}
use Rattle.retimer.specs.Bytes.{double_word}
use Rattle.retimer.specs.View.{bytes_of, view_of, Valid}
use Rattle.retimer.specs.Calls.{with_state}
use Rattle.retimer.specs.Replay.{calls_of}
use Rattle.marking.specs.declared.block.Marked.{Marked}

-- The line of the call number n: what it answers, with the held list's length, and the lamp that is stored after it.
abbrev pub line_of : ℕ → model.Answered → List ℕ
line_of n w = call_line n (outcome_text (length w.monitor.pending) w.outcome) w.monitor.lit

-- The lines of calls, where n calls came before.
unfoldable pub lines_of : Compiled → model.Monitor → ℕ → List Call → List ℕ
lines_of m b n [] = []
lines_of m b n (k ∷ ks) = line_of (suc n) (answer m b k) ++ lines_of m (answer m b k).monitor (suc n) ks

-- The lines of calls by the history alone: what each call answers, with the number of pending actions after it, and a lamp that is 0 exactly when document 01's rule says dark after it.
pub data Told (a : Automaton) : History → ℕ → List Call → List ℕ → Type 0 where
  end : {h : History} {n : ℕ} → Told a h n [] []
  call : {h h' : History} {n : ℕ} {k : Call} {ks : List Call} {o : Outcome} {x : Bool} {text : List ℕ} → Answers a h k o h' → ((x ≡ false) ↔ Dark a h') → Told a h' (suc n) ks text
      → Told a h n (k ∷ ks) (call_line (suc n) (outcome_text (length h'.pending) o) x ++ text)

-- The lines of a block of bytes: those of its whole calls, and one for bytes left over.
abbrev pub block_text : Compiled → model.Monitor → ℕ → Bytes → List ℕ
block_text m b n s = lines_of m b n (calls_of s) ++ tail_line (length s % 5)

-- The text of the block is written at the front of the buffer; the box is the model's after the block's calls, with bytes and table as they were.
pub record MarkRight (b : Monitor) (s : Bytes) (n : ℕ) (before after : List ℕ) (r : Marked) : Type 0 where
  pub wrote : Wrote before 0 (block_text (compile (bytes_of b)) (view_of b) n s) after r.size
  pub counts : IsPrefixLen r.size after
  pub calls_are : r.calls ≡ n + length s / 5
  pub monitor_is : view_of r.monitor ≡ (replay (compile (bytes_of b)) (view_of b) (calls_of s)).monitor
  pub valid : Valid r.monitor
  pub kept : r.monitor ≡ with_state b r.monitor.state

-- Blocks join: the text of bytes that begin with whole calls is the text of those calls, and behind it that of the rest, on the box and with the number of
-- calls that the first part gives.
abbrev pub Joins : Compiled → model.Monitor → ℕ → Bytes → Bytes → Type 0
Joins m b n s t = length s % 5 ≡ 0 → block_text m b n (s ++ t) ≡ block_text m b n s ++ block_text m (replay m b (calls_of s)).monitor (n + length s / 5) t

-- ---- The desk program's input and its whole text

-- The sheet's length, in the input's first two bytes; 0 where these are not there, or no sheet is so long.
abbrev pub size_in : Bytes → ℕ
size_in s = cond (ltb (length s) 2 || ltb max_size (word s 0)) 0 (word s 0)

-- The sheet that the input begins with. Where there are too few bytes for its length or for the sheet it is empty, which is I-1.
abbrev pub sheet_in : Bytes → Bytes
sheet_in s = cond (ltb (length s) (2 + size_in s)) [] (take (size_in s) (drop 2 s))

-- The loading date, in the first four bytes of the input that has one; 0 where these are not there.
abbrev pub date_in : Bytes → ℕ
date_in s = cond (ltb (length s) 4) 0 (double_word s 0)

-- The text of a sheet that is loaded at d, and calls, by what the check answers: its line and, where it loads, the lines of the calls on a fresh box.
abbrev pub text_of : loading.Checked → Bytes → ℕ → Bytes → List ℕ
text_of (loading.accepted k) s d calls = sheet_line k ++ block_text (compile s) (fresh_monitor (automaton s d)) 0 calls
text_of (loading.refused r) s d calls = refused_line r

abbrev pub key_text : Bytes → ℕ → Bytes → List ℕ
key_text s d calls = text_of (check s d) s d calls
