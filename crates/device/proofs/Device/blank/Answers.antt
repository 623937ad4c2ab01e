use Rattle.std.proofs.Common.{◌∙◌, ap₂}
use Rattle.pages.specs.Lists.{zeros}
use Rattle.device.specs.Held.{held}
use Rattle.device.proofs.Holding.{blank_is, same_zeros}
use Rattle.device.proofs.Device.blank.Goals as goal

pub returns : goal.returns
unfolding zeros
returns c = ap₂ held (c.in_ok-vec.ensures.items_if_clones_equal (λ y e. same_zeros y e.whole) ∙ blank_is c.args.pages) c.new.ensures.items
