-- Logs of actions (request F-3 of document 02): records of five bytes, and the timed word that they stand for in dates or in gaps.
use Rattle.std.specs.Prelude.{List, [], ◌∷◌, ◌++◌, ℕ, zero, suc, ◌+◌, ◌-◌, ◌*◌, ◌/◌, ◌%◌, length}
use Rattle.enforcement.specs.Automaton.{Bytes, byte}
use Rattle.enforcement.specs.TimedWord.{Event}
use Rattle.retimer.specs.Bytes.{double_word}
use Rattle.logs.specs.declared.format.Format.{Format}
use Rattle.logs.specs.declared.format.Format.TheVariants.{Dates, Gaps}
use Rattle.logs.specs.declared.record.Record.{Record}

-- ---- Bytes

-- The record at place k: four bytes of ticks, low byte first, and the action (the command). The ticks are the action's date, or its gap: the ticks since the action before it.
abbrev pub record_at : Bytes → ℕ → Record
record_at s k = record { ticks = double_word s (5 * k); action = byte s (5 * k + 4) }

-- n records from place k on.
unfoldable pub records_from : Bytes → ℕ → ℕ → List Record
records_from s zero k = []
records_from s (suc n) k = record_at s k ∷ records_from s n (suc k)

-- The log that bytes are: their whole records.
abbrev pub records_of : Bytes → List Record
records_of s = records_from s (length s / 5) 0

-- The bytes of a record whose ticks have four bytes.
abbrev pub record_bytes : Record → Bytes
record_bytes r = r.ticks % 256 ∷ r.ticks / 256 % 256 ∷ r.ticks / 65536 % 256 ∷ r.ticks / 16777216 % 256 ∷ r.action ∷ []

-- The bytes of a log.
unfoldable pub bytes_of : List Record → Bytes
bytes_of [] = []
bytes_of (r ∷ rs) = record_bytes r ++ bytes_of rs

-- ---- Dates and gaps

-- The date that a record's ticks stand for, after an action at d.
abbrev pub date_of : Format → ℕ → ℕ → ℕ
date_of Dates d n = n
date_of Gaps d n = d + n

-- The ticks that stand for date t, after an action at d.
abbrev pub ticks_of : Format → ℕ → ℕ → ℕ
ticks_of Dates d t = t
ticks_of Gaps d t = t - d

-- The timed word that records stand for, after an action at d.
unfoldable pub word_from : Format → ℕ → List Record → List Event
word_from f d [] = []
word_from f d (r ∷ rs) = record { action = r.action; date = date_of f d r.ticks } ∷ word_from f (date_of f d r.ticks) rs

-- The records that stand for a timed word, after an action at d.
unfoldable pub log_from : Format → ℕ → List Event → List Record
log_from f d [] = []
log_from f d (e ∷ w) = record { ticks = ticks_of f d e.date; action = e.action } ∷ log_from f e.date w

-- The first gap counts from 0.
abbrev pub word_of : Format → List Record → List Event
word_of f rs = word_from f 0 rs

abbrev pub log_of : Format → List Event → List Record
log_of f w = log_from f 0 w

abbrev pub other : Format → Format
other Dates = Gaps
other Gaps = Dates
