-- What is asked of a source.
-- Which paths are asked for, in which order.
use Rattle.std.specs.Prelude.{◌≡◌, ℕ, List, ◌++◌, Option, Some, IfSome, codes}
use Rattle.program.specs.declared.source.Reason.{Reason}
use Rattle.program.specs.declared.source.Reason.TheVariants.{Missing, Folder, Denied, Links, NoFolder, BadName, Failed}

-- where the paths that were asked for before are known, these are asked for after them
abbrev pub ReadsPaths : Option (List (List ℕ)) → Option (List (List ℕ)) → List (List ℕ) → Type 0
ReadsPaths old new paths = IfSome old (λ before. new ≡ Some (before ++ paths))

-- a reason in words
abbrev pub reason_text : Reason → List ℕ
reason_text Missing = codes "no such file"
reason_text Folder = codes "a folder"
reason_text Denied = codes "permission denied"
reason_text Links = codes "too many links"
reason_text NoFolder = codes "a part of the path is no folder"
reason_text BadName = codes "no file can have this name"
reason_text Failed = codes "a read failed"
