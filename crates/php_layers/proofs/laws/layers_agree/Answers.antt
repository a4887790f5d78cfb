use Rattle.php_layers.proofs.LayerLemmas.{layers_agree}
use Rattle.php_layers.proofs.laws.layers_agree.Goals as goal

pub returns : goal.returns
returns g c = let l = g.L.TwoLayers in layers_agree l.end l.first l.second l.related l.agree
