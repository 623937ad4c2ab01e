-- The plain command that a command of the code stands for, its lent rows as they are now.
use Rattle.std.specs.Prelude.{Some, None, Option}
use Rattle.commands.specs.Command as plain
use Rattle.commands.specs.declared.command.Command.{Command}
use Rattle.commands.specs.declared.command.Command.TheVariants.{WriteFile, DropFile, Commit, Branch, GoTo, History, ShowFile, Status, ReadFile, Join, Settle, Leave, MoveOnto, Carry, Forget, Tag, Who, Sweep, Fetch}

abbrev pub meant : Command → plain.Command
meant (WriteFile path bytes) = plain.write_file path.now bytes.now
meant (DropFile path) = plain.drop_file path.now
meant (Commit stamp words) = plain.commit stamp words.now
meant (Branch name) = plain.branch name.now
meant (GoTo name) = plain.go_to name.now
meant History = plain.history
meant (ShowFile name path) = plain.show_file name.now path.now
meant Status = plain.status
meant (ReadFile path) = plain.read_file path.now
meant (Join name) = plain.join name.now
meant (Settle path) = plain.settle path.now
meant Leave = plain.leave
meant (MoveOnto name) = plain.move_onto name.now
meant (Carry id) = plain.carry id.now
meant (Forget name) = plain.forget name.now
meant (Tag name) = plain.tag name.now
meant (Who path) = plain.who path.now
meant Sweep = plain.sweep
meant (Fetch house) = plain.fetch house

abbrev pub meaning : Option Command → Option plain.Command
meaning None = None
meaning (Some c) = Some (meant c)
