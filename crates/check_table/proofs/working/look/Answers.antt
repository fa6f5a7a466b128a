-- Each load leaves all but the word that it found.
use Rattle.check_table.proofs.Looks.{looked_on}
use Rattle.check_table.specs.Working.{HasLooked}
use Rattle.check_table.proofs.working.look.Goals as goal

pub returns-clause-looked : goal.returns-clause-looked
returns-clause-looked g c =
    let v = c.args.pass.now.seat.me.0 in
    let a = c.load_register.new.self.seat.me.0 in
    let b = c.load_call.new.self.seat.me.0 in
    let d = c.load_strong.new.self.seat.me.0 in
    let e = c.load_weak.new.self.seat.me.0 in
    let f = c.load_link.new.self.seat.me.0 in
    let h = c.load_claim.new.self.seat.me.0 in
    let to_a : HasLooked v a = record { found = v.found; is = c.load_register.ensures.step.follows.view } in
    let to_b : HasLooked a b = record { found = a.found; is = c.load_call.ensures.step.follows.view } in
    let to_d : HasLooked b d = record { found = c.load_strong.result; is = c.load_strong.ensures.step.follows.view } in
    let to_e : HasLooked d e = record { found = c.load_weak.result; is = c.load_weak.ensures.step.follows.view } in
    let to_f : HasLooked e f = record { found = c.load_link.result; is = c.load_link.ensures.step.follows.view } in
    let to_h : HasLooked f h = record { found = c.load_claim.result; is = c.load_claim.ensures.step.follows.view } in
    looked_on v f h (looked_on v e f (looked_on v d e (looked_on v b d (looked_on v a b to_a to_b) to_d) to_e) to_f) to_h
