-- The declared reasons as document 01 has them.
use Rattle.enforcement.specs.Reason.{i_1, i_2, i_3, i_4, i_5, i_6, i_7, i_8, s_1, s_2, s_3, s_4, s_5}
use Rattle.enforcement.specs.Reason as model
use Rattle.retimer.specs.declared.reason.Reason.{Reason}
use Rattle.retimer.specs.declared.reason.Reason.TheVariants.{I1, I2, I3, I4, I5, I6, I7, I8, S1, S2, S3, S4, S5}

-- The reason that a declared one stands for.
abbrev pub reason_of : Reason → model.Reason
reason_of I1 = i_1
reason_of I2 = i_2
reason_of I3 = i_3
reason_of I4 = i_4
reason_of I5 = i_5
reason_of I6 = i_6
reason_of I7 = i_7
reason_of I8 = i_8
reason_of S1 = s_1
reason_of S2 = s_2
reason_of S3 = s_3
reason_of S4 = s_4
reason_of S5 = s_5
