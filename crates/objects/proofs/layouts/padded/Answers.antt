use Rattle.std.proofs.Common.{refl}
use Rattle.pages.specs.Lists.{zeros}
use Rattle.objects.proofs.LayoutLaws.{padded_made}
use Rattle.objects.proofs.layouts.padded.Goals as goal

pub returns : goal.returns
unfolding zeros
returns c = padded_made c.args.bytes.now c.copy_from_slice.new.self _ c.requires c.copy_from_slice.ensures.after refl
