-- A line without a fault: it has no bad form, and passes no limit.
use Rattle.px_num.proofs.Basics.{◌≡◌, refl, Option, Some, None}
use Rattle.px_show.proofs.Words.{judged, LineFault}
use Rattle.px_show.specs.declared.fault.Cause.{Cause}

pub good_form : {K : Type 0} (cause : Option Cause) (limit : Option (LineFault K)) → judged cause limit ≡ None
    → cause ≡ None
good_form None limit e = refl
good_form (Some cause) limit e = cc
