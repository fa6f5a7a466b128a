-- In a new table a ticket is due at each place.
use Rattle.std.proofs.Common.{◌≡◌, ◌+◌, ◌∙◌, ap, rules, subst, sym}
use Rattle.atomic_table.specs.Table.{Me}
use Rattle.tide_posts.specs.Among.{Among, places_below}
use Rattle.tide_posts.specs.Name.{Name, places}
use Rattle.tide_posts.specs.tide_hands.declared.parcel.Parcel.{Parcel}
use Rattle.tide_posts.specs.tide_hands.declared.view.HandView.{HandView}
use Rattle.tide_posts.specs.declared.handed.HandedIn.{HandedIn}
use Rattle.tide_posts.specs.tide_heap.declared.steps.notes.Ticket.{Ticket}
use Rattle.tide_server.proofs.Handing.{Among-below}
use Rattle.tide_server.proofs.opening.stand.Goals as goal

pub returns-clause-due : goal.returns-clause-due
returns-clause-due g c = λ place below.
    let count : c.from.result + c.from-2.result ≡ places c.args.heap.key.layout = search rules in
    let free = ap (λ (m : Me (Parcel Ticket HandedIn) (HandView Name)). m.0.free) c.in-Ok.ensures.keeper ∙ ap places_below count in
    subst (Among place) (sym free) (Among-below (places c.args.heap.key.layout) place below)
