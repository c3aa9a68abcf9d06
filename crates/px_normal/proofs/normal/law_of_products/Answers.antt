use Rattle.px_num.proofs.Basics.{All-filter}
use Rattle.px_normal.specs.Forms.{HasPlain, HasSolidsBelow}
use Rattle.px_normal.proofs.LiveLemmas.{live_places, live_sides}
use Rattle.px_normal.proofs.ShorterLemmas.{all_shorter, never_crowded}
use Rattle.px_normal.proofs.normal.law_of_products.Goals as goal

pub returns-clause-live : goal.returns-clause-live
returns-clause-live c = record { sides = live_sides _; places = live_places _ }

pub returns-clause-plain : goal.returns-clause-plain
returns-clause-plain c = All-filter _ HasPlain _ (c.laws_of_normal_forms.ensures.plain _ c.nodes.ensures.lawful.solids)

pub returns-clause-known : goal.returns-clause-known
returns-clause-known c count below =
    All-filter _ (HasSolidsBelow count) _ (c.laws_of_normal_forms.ensures.known count _
    c.nodes.ensures.lawful.solids below)
