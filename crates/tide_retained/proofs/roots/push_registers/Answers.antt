-- One more register was read.
use Rattle.std.proofs.Common.{ℕ, ◌≡◌, ◌<◌, List, arith, subst, sym, ◌∙◌}
use Rattle.tide_words.specs.tide_layout.declared.region.Region.TheVariants.{Registers}
use Rattle.tide_words.specs.tide_layout.Region.{index_of_register}
use Rattle.tide_model.specs.declared.val.Val.{Val}
use Rattle.tide_words.specs.heap.Heap.{heap_of}
use Rattle.tide_words.specs.heap.Reading.{IsValueOf}
use Rattle.tide_retained.specs.declared.root.Root.TheVariants.{Register}
use Rattle.tide_retained.specs.RootsRead.{AddsRoots, IsNamedRoot, IsRegisterRoot}
use Rattle.tide_retained.proofs.RootLaws.{one_more_register}
use Rattle.tide_retained.proofs.roots.push_registers.Goals as goal

pub loop-register-preserved : goal.loop-register-preserved
loop-register-preserved g c = record {
  adds = λ shapes state reads.
      let layout = c.args.layout.now in
      let who = c.args.who in
      let register = c.loop-register.register in
      let within : register < layout.registers =
      (let test = c.loop-register-test.true in let count = c.registers-register-end.ensures.count in omega (arith, test, count)) in
      let value = c.register_at-value.ensures.value (state.registers who register)
      (subst (λ (words : List ℕ). IsValueOf (state.registers who register) (heap_of layout words Registers (index_of_register layout who register)))
      (sym c.loop-register.invariant.same) (reads.roots.registers who register c.requires.of_layout within)) in
      one_more_register state who register c.args.roots.now.items c.loop-register.roots.items c.push_root.new.roots.items (c.loop-register.invariant.adds shapes state reads)
      (subst (λ (v : Val). AddsRoots (IsNamedRoot (Register who register) v) c.loop-register.roots.items c.push_root.new.roots.items) value c.in_ok-push_root.ensures);
  same = c.register_at-value.ensures.same ∙ c.loop-register.invariant.same;
  same_rest = c.register_at-value.ensures.same_rest ∙ c.loop-register.invariant.same_rest;
}

pub returns-clause-registers : goal.returns-clause-registers
returns-clause-registers g c = λ shapes state reads.
    let layout = c.args.layout.now in
    let all : c.loop-register.register ≡ layout.registers =
    (let test = c.loop-register-test.false in let count = c.registers-register-end.ensures.count in let most = c.loop-register.auto.register-end in
    omega (arith, test, count, most)) in
    subst (λ (k : ℕ). AddsRoots (IsRegisterRoot state c.args.who k) c.args.roots.now.items c.loop-register.roots.items) all (c.loop-register.invariant.adds shapes state reads)
