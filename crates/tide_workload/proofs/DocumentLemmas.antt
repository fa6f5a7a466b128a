-- The document of bytes that are a text, and of those that are none.
use Rattle.std.proofs.Common.{◌≡◌, List, ℕ, Err, IsUtf8}
use Rattle.std.proofs.lemmas.Bool.{false_from_ne_true}
use Rattle.std.proofs.lemmas.Str.{IsUtf8-from_is_utf8, is_utf8-from_IsUtf8}
use Rattle.std.specs.Option.{ok_or}
use Rattle.std.specs.Str.{is_utf8}
use Rattle.toml.specs.Parse.{parse_document}
use Rattle.tide_text.specs.declared.work.fault.Fault.TheVariants.{NotToml}
use Rattle.tide_workload.specs.Reading.{document_of, document_or}

pub document_or-no_text : (bytes : List ℕ) → ¬ IsUtf8 bytes → document_or bytes ≡ Err NotToml
unfolding document_of
document_or-no_text bytes none = rw (false_from_ne_true (is_utf8 bytes) (λ is. none (IsUtf8-from_is_utf8 bytes is)))

pub document_or-text : (bytes : List ℕ) → IsUtf8 bytes → document_or bytes ≡ ok_or (parse_document bytes) NotToml
unfolding document_of
document_or-text bytes text = rw (is_utf8-from_IsUtf8 bytes text)
