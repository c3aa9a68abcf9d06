use Rattle.px_num.proofs.Basics.{◌+◌, ◌++◌, ap}
use Rattle.px_sched.proofs.Words.{literal_of, literals_from, others_of}
use Rattle.px_sched.proofs.group.Group.next.Goals as goal

pub returns-in-Some : goal.returns-in-Some
returns-in-Some c =
    let scene = c.args.scene.now in
    let products = c.args.products.now in
    let g = c.args.self in
    let next = c.in-Some.ensures (literal_of products g) (others_of products g) c.requires.group.step in
    record {
      left = ap (λ steps. steps ++ literals_from scene products g.product (g.literal + 1)) next.left;
      stage = record {
        product = c.requires.group.product;
        literal = c.requires.group.literal;
        step = next.step;
        faces = next.faces;
      };
    }
