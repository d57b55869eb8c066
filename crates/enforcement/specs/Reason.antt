-- Why a load or a call refuses (document 01, "Why a call refuses"; S-5 is from request F-2 of document 02).
use Rattle.std.specs.Prelude.{ℕ}

pub data Reason : Type 0 where
  i_1 i_2 i_3 i_4 i_5 i_6 i_7 i_8 s_1 s_2 s_3 s_4 s_5 : Reason

-- The order in which a load tests its reasons, which are the first six, and I-8 for its date. Those of calls have no order by their numbers: `Answers` of the history has it.
abbrev pub number : Reason → ℕ
number i_1 = 1
number i_2 = 2
number i_3 = 3
number i_4 = 4
number i_5 = 5
number i_6 = 6
number i_7 = 7
number i_8 = 8
number s_1 = 9
number s_2 = 10
number s_3 = 11
number s_4 = 12
number s_5 = 13
