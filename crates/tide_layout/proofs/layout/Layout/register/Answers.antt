-- Why `register` meets its contract.
use Rattle.std.proofs.Common.{ℕ, ◌≡◌, ◌+◌, ◌*◌, ◌∙◌, arith, ap, get_or}
use Rattle.std.proofs.Math.Nat.{mul-add}
use Rattle.std.proofs.lemmas.Nat.{div-mul-add}
use Rattle.tide_model.specs.Layout.{Layout}
use Rattle.tide_layout.specs.Layout.{layout_of}
use Rattle.tide_layout.specs.Region.{base_of, index_of_register}
use Rattle.tide_layout.specs.declared.region.Region.TheVariants.{Registers}
use Rattle.tide_layout.proofs.Places.{place_in-below, place_in-is}
use Rattle.tide_layout.proofs.SlotPlaces.{index_of_register-below}
use Rattle.tide_layout.proofs.StartLaws.{starts_of-base}
use Rattle.tide_layout.proofs.layout.Layout.register.Goals as goal

pub returns-clause-place : goal.returns-clause-place
returns-clause-place c =
    let layout = c.args.self.now in
    let start : get_or c.self.inside.starts c.from.result 0 ≡ base_of layout Registers =
    ap (λ (n : ℕ). get_or c.self.inside.starts n 0) (c.from.ensures ∙ c.tag.ensures.tag)
    ∙ ap (λ starts. get_or starts 6 0) c.self.invariant.begins
    ∙ starts_of-base (layout_of c.self.inside.numbers) Registers
    ∙ ap (λ (l : Layout). base_of l Registers) c.self.view_is in
    let row : c.from-row.result ≡ layout.registers = c.from-row.ensures ∙ ap (λ (l : Layout). l.registers) c.self.view_is in
    let rows : c.args.mutator * (c.from-row.result + 16) ≡ c.args.mutator * (layout.registers + 16) = ap (λ (n : ℕ). c.args.mutator * (n + 16)) row in
    let parted = mul-add c.args.mutator layout.registers 16 in
    let is = place_in-is layout Registers (index_of_register layout c.args.mutator c.args.register) in
    let owner = div-mul-add c.args.mutator layout.registers c.args.register c.requires.in_registers in
    omega (arith, start, rows, parted, is, owner, c.from-2.ensures)

pub returns-clause-within : goal.returns-clause-within
returns-clause-within c =
    let layout = c.args.self.now in
    let within = place_in-below layout Registers (index_of_register layout c.args.mutator c.args.register)
    (index_of_register-below layout c.args.mutator c.args.register c.requires.in_mutators c.requires.in_registers) in
    let place = returns-clause-place c in
    omega (arith, within, place)
