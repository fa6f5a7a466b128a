-- The keys of what is held have names.
use Rattle.std.proofs.Common.{length}
use Rattle.embed_standing.proofs.Shown.{shown_is_named}
use Rattle.tide.specs.tide_shape.Lists.{lists_of}
use Rattle.embed_standing.proofs.showing.show.Goals as goal

pub is_shown-is_held-requires : goal.is_shown-is_held-requires
is_shown-is_held-requires g c = record {
  named = shown_is_named (lists_of c.args.standing.now.heap.key.shapes) (length c.args.names.now) c.look-turn.result.1
      c.requires.shown c.requires.names c.look-turn.ensures.keys;
}

pub is_shown-is_left-requires : goal.is_shown-is_left-requires
is_shown-is_left-requires g c = record {
  named = shown_is_named (lists_of c.args.standing.now.heap.key.shapes) (length c.args.names.now)
      c.look-turn-2.result.1 c.requires.shown c.requires.names c.look-turn-2.ensures.keys;
}
