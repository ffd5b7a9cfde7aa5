-- The limits that settings give a call.
use Rattle.wsyntax.specs.Texts.Answer.{Limits}
use Rattle.wstore.specs.Settings.{limits}
use Rattle.wstore.specs.declared.settings.Settings.{Settings}

-- the limits that settings of the code mean
abbrev pub limits_of : Settings → Limits
limits_of s = limits s.fuel s.frames s.pages
