-- That one array, and no other, is freed.
use Rattle.std.proofs.Common.{ℕ, ◌<◌, inl, inr, refl, sym, ◌∙◌, ap, Bool, List, length, get_or}
use Rattle.std.specs.Prelude.{None, Some, slice_set, if◌then◌else◌}
use Rattle.std.proofs.lemmas.List.{get_or-set_same, get_or-set_other}
use Rattle.std.proofs.lemmas.Bool.Decides.{eqb_tells}
use Rattle.std.proofs.Math.ListN.{length-set}
use Rattle.tide_model.specs.History.{is_this_array}
use Rattle.tide_plain.specs.declared.statuses.ArrayStatus.{ArrayStatus}
use Rattle.tide_plain.specs.declared.statuses.ArrayStatus.TheVariants.{Free}
use Rattle.tide_plain.specs.statuses.Statuses.{AreFreed}

-- what passes no test is as it was
pub AreFreed-none : (statuses : List ArrayStatus) → AreFreed (is_this_array None) statuses statuses
AreFreed-none statuses = record { as_many = refl; each = λ array. refl }

-- one array is freed
pub AreFreed-one : (own : ℕ) (statuses : List ArrayStatus) → own < length statuses → AreFreed (is_this_array (Some own)) statuses (slice_set statuses own Free)
AreFreed-one own statuses within = record {
  as_many = length-set statuses own Free;
  each = λ array. elim (eqb_tells own array) [
    | inl same ↦
        ap (λ (k : ℕ). get_or (slice_set statuses own Free) k Free) (sym same.1) ∙ get_or-set_same statuses own Free Free within
        ∙ sym (ap (λ (b : Bool). if b then Free else get_or statuses array Free) same.0)
    | inr other ↦
        get_or-set_other statuses own array Free Free (λ e. other.1 (sym e)) ∙ sym (ap (λ (b : Bool). if b then Free else get_or statuses array Free) other.0)
  ];
}
