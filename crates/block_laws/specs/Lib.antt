pub mod RendererLaws
