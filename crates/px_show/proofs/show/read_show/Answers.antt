use Rattle.px_num.proofs.Basics.{◌≡◌, length, map, sym, ◌∙◌, None, length-map}
use Rattle.px_show.proofs.Words.{names_of, parts_of, token_of}
use Rattle.px_show.proofs.ShowLaws.{small_steps}
use Rattle.px_show.proofs.show.read_show.Goals as goal

pub lack_in-requires : goal.lack_in-requires
lack_in-requires c =
    let names = names_of c.args.solids.now
    in let read = parts_of (map token_of c.as_slice.result.now)
    in let same : length names ≡ length c.args.solids.now = search (length-map)
    in let fault = c.fault.ensures names read same c.in_ok-stack.ensures
    in let none : c.fault.result ≡ None = search
    in let small = small_steps names read c.in_ok-stack.stack.steps.items c.in_ok-stack.ensures.order (sym fault ∙ none)
    in let memory = c.build.ensures.memory small.0 (c.steps.ensures ∙ small.1) small.2 small.3
    in rw c.in-Err.is at memory
