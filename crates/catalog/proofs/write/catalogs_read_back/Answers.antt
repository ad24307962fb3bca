use Rattle.catalog.proofs.CatalogBack as back
use Rattle.catalog.proofs.write.catalogs_read_back.Goals as goal

pub returns : goal.returns
returns c = λ streams gens text are is fit. back.catalogs_read_back streams gens text are is fit
