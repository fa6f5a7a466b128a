-- Why `large` meets its contract.
use Rattle.std.proofs.Common.{arith}
use Rattle.tide_layout.specs.Layout.{layout_of}
use Rattle.tide_layout.proofs.StartLaws.{IsWithinLimits-each, starts_of-is, sum-rooms}
use Rattle.tide_layout.proofs.layout.Layout.large.Goals as goal

pub starts_of-starts-requires : goal.starts_of-starts-requires
starts_of-starts-requires c =
    let layout = layout_of (record { cell_blocks = c.args.blocks; array_blocks = c.args.arrays; registers = c.args.registers; strong = c.args.strong; weak = c.args.weak; mutators = c.args.mutators; visitors = c.args.visitors }) in
    let limits = IsWithinLimits-each layout (omega arith) (omega arith) c.requires.few_blocks c.requires.few_arrays c.requires.few_registers
    (omega arith) (omega arith) c.requires.few_mutators c.requires.few_visitors in
    sum-rooms layout c.rooms.result limits c.rooms.ensures

pub invariant_of-result : goal.invariant_of-result
invariant_of-result c =
    let layout = layout_of (record { cell_blocks = c.args.blocks; array_blocks = c.args.arrays; registers = c.args.registers; strong = c.args.strong; weak = c.args.weak; mutators = c.args.mutators; visitors = c.args.visitors }) in
    record {
      limits = IsWithinLimits-each layout (omega arith) (omega arith) c.requires.few_blocks c.requires.few_arrays c.requires.few_registers
          (omega arith) (omega arith) c.requires.few_mutators c.requires.few_visitors;
      begins = starts_of-is layout c.rooms.result c.starts_of-starts.result c.rooms.ensures (omega arith) c.starts_of-starts.ensures;
      all_cells = c.cells.ensures.count;
      all_arrays = c.arrays.ensures.count;
      of_cells = c.firsts_of.ensures;
      of_arrays = c.firsts_of-2.ensures;
    }
