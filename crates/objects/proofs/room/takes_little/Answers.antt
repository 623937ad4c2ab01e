use Rattle.objects.proofs.RoomLaws.{takes_little}
use Rattle.objects.proofs.room.takes_little.Goals as goal

pub returns : goal.returns
returns c = takes_little
