use Rattle.objects.proofs.RankLaws.{tally_holds, ranks, ranks_tallied}
use Rattle.objects.proofs.laws.ranks_rightly.Goals as goal

pub returns : goal.returns
returns c = record { tallies = tally_holds; ranks = ranks; after = ranks_tallied }
