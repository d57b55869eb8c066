-- The bytes of sheets and calls that a text stands for.
use Rattle.std.specs.Prelude.{◌≡◌, Bool, cond, ◌&&◌, List, [], ◌∷◌, ◌++◌, ℕ, zero, suc, ◌+◌, ◌-◌, ◌/◌, ◌%◌, min, ltb, eqb, length, take, drop, get_or}
use Rattle.drafting.specs.declared.script.Entry.{Entry}
use Rattle.drafting.specs.Numerals.{first_digit, numeral_at}

-- Bytes stand in the buffer from a place to an end, after what stood before it; from the end on it is as before.
pub record Put (before : List ℕ) (at : ℕ) (bytes after : List ℕ) (end : ℕ) : Type 0 where
  pub front : take end after ≡ take at before ++ bytes
  pub rest : drop end after ≡ drop end before

-- The low bytes of the numbers from a digit on, as many as there is room for.
unfoldable pub bytes_from : ℕ → List ℕ → ℕ → List ℕ
bytes_from zero s i = []
bytes_from (suc room) s i = cond (ltb i (length s)) ((numeral_at s i).value % 256 ∷ bytes_from room s (first_digit s (numeral_at s i).end)) []

abbrev pub bytes_of : ℕ → List ℕ → List ℕ
bytes_of room s = bytes_from room s (first_digit s 0)

-- " x" stands at a place.
abbrev pub is_times : List ℕ → ℕ → Bool
is_times s at = eqb (get_or s at 0) 32 && eqb (get_or s (at + 1) 0) 120

-- An action and its date, from a place on.
unfoldable pub call_from : List ℕ → ℕ → ℕ → Entry
call_from s at times =
    let action = numeral_at s at in
    let date = numeral_at s (first_digit s action.end) in
    record { times = times; action = action.value; date = date.value; end = date.end }

-- The call whose digits begin at a place, with how often it is made before it, or once.
unfoldable pub entry_at : List ℕ → ℕ → Entry
entry_at s at =
    let first = numeral_at s at in
    cond (is_times s first.end) (call_from s (first_digit s first.end) first.value) (call_from s at 1)

-- The five bytes of a call: the action, and the date from its lowest byte on.
abbrev pub call_bytes : ℕ → ℕ → List ℕ
call_bytes action date = action % 256 ∷ date % 256 ∷ date / 256 % 256 ∷ date / 65536 % 256 ∷ date / 16777216 % 256 ∷ []

abbrev pub call_of : Entry → List ℕ
call_of e = call_bytes e.action e.date

-- A call as often as a number says.
unfoldable pub repeated : ℕ → List ℕ → List ℕ
repeated zero call = []
repeated (suc n) call = call ++ repeated n call

-- As many calls as there is room for: one call as often as it is left to be made, and then those of the entries from a digit on. Each entry's call is made at least once.
unfoldable pub calls_from : ℕ → List ℕ → List ℕ → ℕ → ℕ → List ℕ
calls_from zero s call left i = []
calls_from (suc room) s call (suc left) i = call ++ calls_from room s call left i
calls_from (suc room) s call zero i =
    let e = entry_at s i in
    cond (ltb i (length s)) (call_of e ++ calls_from room s (call_of e) (e.times - 1) (first_digit s e.end)) []

abbrev pub calls_of : ℕ → List ℕ → List ℕ
calls_of room s = calls_from room s [] 0 (first_digit s 0)

-- As many calls of some as there is room for from a place on in a buffer of a size.
abbrev pub fitting : ℕ → ℕ → ℕ → ℕ
fitting n size at = min n ((size - at) / 5)

-- The bytes of an entry at a place: its call once, and further as often as it is made and there is room.
abbrev pub entry_bytes : ℕ → ℕ → Entry → List ℕ
entry_bytes size at e = call_of e ++ repeated (fitting (e.times - 1) size (at + 5)) (call_of e)
