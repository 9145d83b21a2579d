use Rattle.std.proofs.Common.{◌≡◌, ◌<◌, false, length, take}
use Rattle.byte_streams.specs.Streams.{change}
use Rattle.byte_streams.specs.Source.{Takes}
use Rattle.certificate.proofs.fields.fill.Given as goal

abbrev pub invariant-bytes : goal.invariant-bytes
invariant-bytes g l = record {
  taken : Takes (change g.S.Source.state l.fn.source l.source) (take l.place l.text);
  size : length l.text ≡ length l.fn.text;
  before : (g.S.Source.state l.source).has_failed ≡ false → (g.S.Source.state l.fn.source).has_failed ≡ false;
  after : 0 < l.place → (g.S.Source.state l.source).has_failed ≡ false;
}
