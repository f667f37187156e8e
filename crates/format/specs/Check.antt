-- Which files load takes: refusals 1 to 9 in their order, or the document.
use Rattle.std.specs.Prelude.{true, false, length, ltb}
use Rattle.std.specs.Prelude.{None as none, Some as some}
use Rattle.format.specs.declared.Reason.TheVariants.{TooLong}
use Rattle.format.specs.Limits.{byte_limit}
use Rattle.format.specs.Refusals.{refusal, Result, refused, accepted}
use Rattle.format.specs.Text.{Bytes}
use Rattle.format.specs.Document.{Document}
use Rattle.format.specs.Read.{read_file}
use Rattle.format.specs.Structure.{structure_fault}

-- 6 to 9 of a document that has been read
unfoldable pub check_structure : Result Document → Result Document
check_structure (refused r) = refused r
check_structure (accepted d) = elim (structure_fault d) [ some r ↦ refused r | none ↦ accepted d ]

-- the length limit set aside
unfoldable pub check_any : Bytes → Result Document
check_any file = check_structure (read_file file)

-- 1: "More than 32,768 bytes (line 0)"
unfoldable pub check : Bytes → Result Document
check file = elim (ltb byte_limit (length file)) [ true ↦ refused (refusal TooLong 0) | false ↦ check_any file ]
