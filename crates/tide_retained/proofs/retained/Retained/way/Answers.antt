-- Where it was found from, and how far, is where its path begins, and how many steps that has.
use Rattle.std.proofs.Common.{List, Option, ap, sym, ◌∙◌}
use Rattle.std.specs.Prelude.{option_map}
use Rattle.tide_retained.specs.declared.search.Found.{Found}
use Rattle.tide_retained.specs.Retention.{Retention, path_of, way_on}
use Rattle.tide_retained.specs.Searching.{found_in}
use Rattle.tide_retained.proofs.RetentionLaws.{no_way, way_is}
use Rattle.tide_retained.proofs.retained.Retained.way.Goals as goal

pub returns-in-Some : goal.returns-in-Some
returns-in-Some c =
    way_is c.self.inside.found.items c.args.cell c.in-Some.place
    (sym (ap (λ (list : List (Option Found)). found_in list c.args.cell) c.as_slice.ensures.value) ∙ sym c.place_of.ensures ∙ c.in-Some.is)
    ∙ ap (λ (kept : Retention). option_map way_on (path_of kept c.args.cell)) c.self.view_is

pub returns-in-None : goal.returns-in-None
returns-in-None c =
    no_way c.self.inside.found.items c.args.cell
    (sym (ap (λ (list : List (Option Found)). found_in list c.args.cell) c.as_slice.ensures.value) ∙ sym c.place_of.ensures ∙ c.in-None.is)
    ∙ ap (λ (kept : Retention). option_map way_on (path_of kept c.args.cell)) c.self.view_is
