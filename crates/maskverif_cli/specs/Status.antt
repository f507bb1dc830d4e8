-- The exit status of each answer.
use Rattle.std.specs.Prelude.{ℕ}
use Rattle.maskverif_cli.specs.declared.status.Status.{Status}
use Rattle.maskverif_cli.specs.declared.status.Status.TheVariants.{Secure, Accepted, Unproved, Rejected, Made, Usage, Refused, NoFile, ReadFault, WriteFault, NoMemory}

-- the exit status of the program: 0 where all is as asked, 1 where something is not proved, and from 2 on why nothing is said
abbrev pub exit_code : Status → ℕ
exit_code Secure = 0
exit_code Accepted = 0
exit_code Made = 0
exit_code (Unproved tuple) = 1
exit_code (Rejected line why) = 1
exit_code Usage = 2
exit_code (Refused why) = 3
exit_code NoFile = 4
exit_code ReadFault = 5
exit_code WriteFault = 6
exit_code NoMemory = 7
