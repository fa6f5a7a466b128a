-- Why no race was met without visitors.
use Rattle.std.proofs.Common.{ℕ, ◌-◌, ◌^◌, ◌∙◌, ap, arith}
use Rattle.std.specs.Prelude.{min}
use Rattle.tide_threads.proofs.Acting.{races_in-none}
use Rattle.tide_threads.proofs.Turns.{AreParted-standing}
use Rattle.tide_threads.specs.Acting.{races_in}
use Rattle.tide_threads.proofs.on_threads.OnThreads.deferred.Goals as goal

pub returns : goal.returns
returns c =
    let self = c.args.self.now in
    let layout = self.heap.key.layout in
    let xs = self.participants.items in
    let all = c.requires.stands.all in
    let sum = c.deferred_by.ensures ∙ ap (λ l. min (races_in l) (2 ^ 64 - 1)) c.as_slice.ensures.value in record {
      sum = sum;
      none = λ without. sum ∙ ap (λ (n : ℕ). min n (2 ^ 64 - 1)) (races_in-none xs layout.mutators
          (AreParted-standing self.heap.table.shared.table_id layout self.collector.seat.me.0 xs all)
          (let many = all.one_each in omega (arith, many, without)));
    }
