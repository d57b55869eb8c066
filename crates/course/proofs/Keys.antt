-- The keys of P1 to P10 are what the history says: each is worked out by the model, which is the history.
use mathlib.Core.Path.{◌≡◌, refl, ap, sym, ◌∙◌, subst}
use mathlib.Core.Bool.{Bool, true, false}
use mathlib.Core.List.{List, [], ◌++◌}
use mathlib.Core.Logic.{inl, inr}
use Prim.Native.Nat.{ℕ}
use native.Mathlib.Omega.{arith}
use Rattle.enforcement.specs.Automaton.{Bytes, Automaton, automaton, transitions, transitions_over}
use Rattle.enforcement.specs.TimedWord.{Event, stamp, fire_first}
use Rattle.enforcement.specs.Loading.{Bounded, WellFormed, Checked, check_up_to, check, accepted, refused, size_passes, header_passes, initial_passes, pairs_pass, layout_passes, fits_up_to, all_fit_up_to, overlap, overlaps_none, disjoint, disjoint_over}
use Rattle.enforcement.specs.History.{Slot, word_of, HistoryOf, Outcome, place}
use Rattle.enforcement.specs.Constraints.{played_of}
use Rattle.enforcement.specs.Model.{compile, cells, look, memo, tabled, steps, waits, tower, reads, ended, plan, successors, explore, reaches}
use Rattle.enforcement.specs.Monitor.{walk, placed, kept, decided, checked, offered, taken, oldest, picked, collected, none_next, is_lit, lamp_lit, answer, replay, Replayed}
use Rattle.enforcement.specs.Demands.{calls}
use Rattle.enforcement.proofs.Loading as loading
use Rattle.enforcement.proofs.Histories.{history_append, none_played}
use Rattle.enforcement.proofs.Model as model
use Rattle.course.specs.Questions.{Question, KeyRight, AllRight, p1, p2, p3, p4, p5, p6, p7, p8, p9, p10, keys}

-- Whether a check accepts.
abbrev accepts : Checked → Bool
accepts (accepted k) = true
accepts (refused r) = false

accepts_loads : (s : Bytes) → accepts (check s 0) ≡ true → WellFormed s
accepts_loads s e = elim (loading.check_right s 0).one_of [
  | inl x ↦ loading.check_loads s 0 x
  | inr x ↦ let z : ◌≡◌ {A = ℕ} 0 1 = (let y : true ≡ false = sym e ∙ ap accepts x.1 in cc) in absurd (omega arith)
]

-- What the model says of a question: whether its sheet loads, what its calls answer, the events scheduled before it and after it, and what was played before and in all.
record Worked : Type 0 where
  loads : Bool
  answers : List Outcome
  before : List Event
  after : List Event
  played_before : List Slot
  played : List Slot

worked : Question → Worked
worked q =
    let z : Replayed = calls (automaton q.sheet 0) q.before in
    let y : Replayed = replay (compile q.sheet) z.monitor q.calls in
    record { loads = accepts (check q.sheet 0); answers = y.outcomes; before = word_of z.monitor.schedule; after = word_of y.monitor.schedule; played_before = played_of z.outcomes; played = played_of (z.outcomes ++ y.outcomes) }

-- The same where the key is right, nothing is played, and es were scheduled before.
abbrev expected : Question → List Event → Worked
expected q es = record { loads = true; answers = q.answers; before = es; after = es ++ q.events; played_before = []; played = [] }

-- A key that the model works out is the history's.
key : (q : Question) (es : List Event) → worked q ≡ expected q es → KeyRight q
unfolding worked
key q es e =
    let 𝒜 : Automaton = automaton q.sheet 0 in
    let bounded : Bounded q.sheet = loading.bounded q.sheet (accepts_loads q.sheet (ap (λ (w : Worked). w.loads) e)) in
    let z = model.right 𝒜 bounded q.before in
    let y = model.follows 𝒜 bounded q.calls z.history (calls 𝒜 q.before).monitor z.stands in
    let whole = history_append 𝒜 _ z.history y.history q.before q.calls _ _ z.recorded y.recorded in
    let first : word_of z.history.scheduled ≡ es =
    ap word_of (sym (none_played 𝒜 z.history q.before _ z.recorded (ap (λ (w : Worked). w.played_before) e)) ∙ sym z.stands.schedule_is) ∙ ap (λ (w : Worked). w.before) e in
    record {
      answers_before = (calls 𝒜 q.before).outcomes;
      history_before = z.history;
      recorded_before = z.recorded;
      history = y.history;
      recorded = subst (λ (os : List Outcome). HistoryOf 𝒜 z.history q.calls os y.history) (ap (λ (w : Worked). w.answers) e) y.recorded;
      events_are = ap word_of (sym (none_played 𝒜 y.history (q.before ++ q.calls) _ whole (ap (λ (w : Worked). w.played) e)) ∙ sym y.stands.schedule_is)
          ∙ ap (λ (w : Worked). w.after) e ∙ ap (λ (v : List Event). v ++ q.events) (sym first);
    }

-- The table, worked out: each line computes.
pub keys_right : AllRight keys
unfolding worked check_up_to size_passes header_passes initial_passes pairs_pass layout_passes fits_up_to all_fit_up_to overlap overlaps_none disjoint disjoint_over transitions transitions_over stamp place fire_first cells look memo tabled steps waits tower reads ended plan successors explore reaches compile walk placed kept decided checked offered taken oldest picked collected none_next is_lit lamp_lit answer replay
keys_right = (key p1 [] refl, (key p2 p1.events refl, (key p3 (p1.events ++ p2.events) refl, (key p4 [] refl, (key p5 [] refl, (key p6 p5.events refl, (key p7 [] refl, (key p8 [] refl, (key p9 [] refl, (key p10 [] refl, tt))))))))))
