-- A full collection keeps no cell for its age.
use Rattle.tide_periods.proofs.FullCollections.{IsFreed-full}
use Rattle.tide_periods.proofs.plain.PlainStoreStore.collect.Goals as goal

pub returns-clause-freed : goal.returns-clause-freed
returns-clause-freed c = IsFreed-full (λ freed. freed.items) c.args.self.now c.collect.result c.collect.ensures.freed
