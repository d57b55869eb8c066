-- The model's lines are the history's, and so is the key of a sheet that loads.
-- Assumes nothing.
use mathlib.Core.Path.{◌≡◌, ap, sym, subst}
use mathlib.Core.List.{List, [], ◌∷◌, ◌++◌}
use Prim.Native.Nat.{ℕ, suc, ◌%◌}
use lib.ListN.{length}
use Rattle.enforcement.specs.Automaton.{Bytes, automaton}
use Rattle.enforcement.specs.Loading.{Loads, WellFormed, Checked, counts_of}
use Rattle.enforcement.specs.History.{History, Request, fresh, Call}
use Rattle.enforcement.specs.Model.{compile}
use Rattle.enforcement.specs.Monitor.{fresh_monitor, answer}
use Rattle.enforcement.specs.Monitor as model
use Rattle.enforcement.specs.Demands.{StandsFor, Demand2, Demand2All}
use Rattle.enforcement.proofs.Loading.{loads_check, loads_formed, bounded}
use Rattle.enforcement.proofs.Model.{fresh_stands}
use Rattle.enforcement.proofs.Promises.{demand_2}
use Rattle.report.specs.Lines.{sheet_line, outcome_text, call_line, tail_line}
use Rattle.retimer.specs.Replay.{calls_of}
use Rattle.marking.specs.Marks.{lines_of, Told, end, call, text_of, key_text}

-- One call.
step : (s : Bytes) (d : ℕ) → WellFormed s → (h : History) (b : model.Monitor) → StandsFor (automaton s d) b h → (k : Call) → Demand2 (automaton s d) h k (answer (compile s) b k)
unfolding Demand2All
step s d loads h b f k = demand_2 (automaton s d) (bounded s loads) h b f k

-- The lines of calls on a monitor that stands for a history are the history's.
pub told : (s : Bytes) (d : ℕ) → WellFormed s → (ks : List Call) (n : ℕ) (h : History) (b : model.Monitor) → StandsFor (automaton s d) b h → Told (automaton s d) h n ks (lines_of (compile s) b n ks)
unfolding lines_of
told s d loads [] n h b f = end
told s d loads (k ∷ ks) n h b f =
    let r = step s d loads h b f k in
    let w : model.Answered = answer (compile s) b k in
    subst (λ (p : List Request). Told (automaton s d) h n (k ∷ ks) (call_line (suc n) (outcome_text (length p) w.outcome) w.monitor.lit ++ lines_of (compile s) w.monitor (suc n) ks)) (sym r.stands.pending_is)
    (call r.answers r.stands.lamp_is (told s d loads ks (suc n) r.history w.monitor r.stands))

-- The key of a sheet that loads at d: the lines of its calls are those of the history from a fresh one at d.
pub key_told : (s : Bytes) (d : ℕ) (calls : Bytes) → Loads s d → (text : List ℕ) × Told (automaton s d) (fresh (automaton s d)) 0 (calls_of calls) text × (key_text s d calls ≡ sheet_line (counts_of s) ++ (text ++ tail_line (length calls % 5)))
key_told s d calls l =
    let f = loads_formed s d l in (
      lines_of (compile s) (fresh_monitor (automaton s d)) 0 (calls_of calls),
      told s d f (calls_of calls) 0 (fresh (automaton s d)) (fresh_monitor (automaton s d)) (fresh_stands (automaton s d) (bounded s f)),
      ap (λ (k : Checked). text_of k s d calls) (loads_check s d l),
    )
