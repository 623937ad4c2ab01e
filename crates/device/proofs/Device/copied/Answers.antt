use Rattle.std.proofs.Common.{◌∙◌, ap₂}
use Rattle.device.specs.Held.{held}
use Rattle.device.proofs.Device.copied.Goals as goal

pub returns : goal.returns
returns c =
    ap₂ held (c.in_ok-from_slice.ensures.items ∙ c.deref.ensures.value) (c.in_ok-from_slice-2.ensures.items ∙ c.deref-2.ensures.value) ∙ c.self.view_is
