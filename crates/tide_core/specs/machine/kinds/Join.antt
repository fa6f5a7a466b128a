-- Join: a participant that doesn't run hears the ticket of the open part.
use Rattle.std.specs.Prelude.{ℕ, ◌≡◌, ◌<◌, false, filter}
use Rattle.tide_core.specs.machine.Kind.{Ticket}
use Rattle.tide_core.specs.machine.World.{World}
use Rattle.tide_core.specs.declared.machine.view.View.{View}
use Rattle.tide_core.specs.machine.kinds.StoreStopped.{resting_view}
use Rattle.tide_model.specs.History.{is_call_of}
use Rattle.tide_model.specs.Prefix.{IsPrefix}
use Rattle.tide_words.specs.marking.Colours.{is_marking, running_cycle}
use Rattle.tide_words.specs.marking.Marked.{base_cycle}
use Rattle.tide_words.specs.tide_layout.declared.region.Region.TheVariants as region

-- the participant has seen what the ticket tells of the history, and knows what it tells of the part; it doesn't run
-- yet
abbrev pub joined_view : Ticket → View → View
joined_view t v = record (resting_view v) {
  seen = t.seen;
  earlier = v.seen;
  told = t.told;
  ticket = t.period;
  run = t.run;
  marks = t.marks;
  cycle = t.cycle;
  mark_version = t.base;
}

-- the ticket is of the open part and tells its phase and base, and what it tells of the history is as much as the
-- participant has seen, or more
pub record MayJoin (w : World) (me : ℕ) (t : Ticket) : Type 0 where
  pub rests : (w.part me).runs ≡ false
  pub later : (w.part me).period < t.period
  pub period : t.period ≡ w.heap region.Period 0
  pub marks : t.marks ≡ is_marking w.heap
  pub cycle : t.cycle ≡ running_cycle w.heap
  pub based : t.base ≡ base_cycle w.heap
  pub told : IsPrefix t.seen w.log
  pub longer : IsPrefix (w.part me).seen t.seen
  pub own : filter (λ event. is_call_of me event.entry) t.seen ≡ (w.part me).mine
